-- What holds of the shared tables at every moment: shape, one parent, search order, pending words, and the status of each record.
use mathlib.Core.Path.{◌≡◌}
use mathlib.Core.Logic.Dec
use mathlib.Core.Logic.{◌≢◌}
use mathlib.Core.List.{List, [], ◌∷◌, Memᴰ}
use Prim.Native.Nat.{ℕ, zero, suc, ◌+◌, ◌*◌, ◌-◌, ◌≤◌, ◌<◌}
use native.Mathlib.Decide.{ℕ_discrete, dec_lt}
use lib.ListN.{get_or}
use Rattle.tables.specs.Numbers.{infinity}
use Rattle.tables.specs.Choice.{listed}
use Rattle.nodes.specs.Keys.{put_in, taken_out}
use Rattle.history.specs.View.{View, In, route, keys, On, Reach, Ordered}
use Rattle.history.specs.Keys.{Rises}
use Rattle.history.specs.Shared.{Desc, Shared, NoChild, Pair}
use Rattle.history.specs.Change.{rank}
use Rattle.history.proofs.Paths.{Uniq}
use Rattle.history.proofs.Replaced.{span, NewOf, Unborn}

-- 1 for an internal node above the dummy, else 0
unfoldable pub counts : ℕ → ℕ → ℕ → ℕ
counts k n tag = elim (Dec.and (dec_lt 2 n) (ℕ_discrete tag k)) [ yes e ↦ 1 | no e ↦ 0 ]

-- the internal nodes above the dummy, up to n
unfoldable pub inner_count : ℕ → View → ℕ → ℕ
inner_count k t zero = 0
inner_count k t (suc n) = counts k (suc n) (t.tag (suc n)) + inner_count k t n

-- keys that rise below infinity
pub record Sorted (ks : List ℕ) : Type 0 where
  pub rises : Rises ks
  pub finite : (y : ℕ) → Memᴰ y ks → y < infinity

-- root and dummy
pub record Crown (k : ℕ) (t : View) : Type 0 where
  pub root_inner : t.tag 1 ≡ k
  pub dummy_inner : t.tag 2 ≡ k
  pub root_keys : (i : ℕ) → 1 ≤ i → i < k → t.key 1 i ≡ infinity
  pub dummy_keys : (i : ℕ) → 1 ≤ i → i < k → t.key 2 i ≡ infinity
  pub first : t.child 1 1 ≡ 2
  pub root_rest : (j : ℕ) → 2 ≤ j → j ≤ k → t.tag (t.child 1 j) ≡ 0
  pub dummy_rest : (j : ℕ) → 2 ≤ j → j ≤ k → t.tag (t.child 2 j) ≡ 0

-- shape; u nodes are in use. `room` is what the depth of a help stack is made of
pub record Shape (k u : ℕ) (t : View) : Type 0 where
  pub crown : Crown k t
  pub tags : (n : ℕ) → In u n → t.tag n ≤ k
  pub above : (n j : ℕ) → In u n → t.tag n ≡ k → In k j → n < t.child n j
  pub used : (n j : ℕ) → In u n → t.tag n ≡ k → In k j → t.child n j ≤ u
  pub leaf_keys : (n : ℕ) → In u n → t.tag n ≢ k → Sorted (keys t n)
  pub inner_keys : (n : ℕ) → 2 < n → n ≤ u → t.tag n ≡ k → Sorted (listed (t.key n) 1 (k - 1))
  pub leaf_clean : (n : ℕ) → In u n → t.tag n ≢ k → t.pend n ≡ 0
  pub room : k * inner_count k t u + (2 * k + 1) ≤ u

-- what a replace drew: its leaf's keys with the key put in, or taken out, or the sprout of both
pub data Made (k : ℕ) (t : View) (d : Desc) : Type 0 where
  put : d.operation ≡ 2 → ¬ Memᴰ d.key (keys t d.l) → t.tag d.third ≢ k
      → keys t d.third ≡ put_in d.key (keys t d.l) → Made k t d
  out : d.operation ≡ 3 → Memᴰ d.key (keys t d.l) → t.tag d.third ≢ k
      → keys t d.third ≡ taken_out d.key (keys t d.l) → Made k t d
  sprouted : d.operation ≡ 2 → ¬ Memᴰ d.key (keys t d.l) → t.tag d.third ≡ k → t.tag d.l + 1 ≡ k
      → ((i : ℕ) → 1 ≤ i → i < k → t.key d.third i ≡ get_or (put_in d.key (keys t d.l)) i 0)
      → ((j : ℕ) → In k j → t.tag (d.third + j) ≡ 1)
      → ((j : ℕ) → In k j → t.key (d.third + j) 1 ≡ get_or (put_in d.key (keys t d.l)) (j - 1) 0) → Made k t d

pub record GoodReplace (k u : ℕ) (t : View) (d : Desc) : Type 0 where
  pub made : Made k t d
  pub new_above : d.l < d.third
  pub new_used : d.third + span k (t.tag d.third) ≤ u
  pub unexpected : d.expected ≡ 0

pub record GoodPrune (k : ℕ) (t : View) (d : Desc) (r : ℕ) : Type 0 where
  pub operation : d.operation ≡ 3
  pub gp_above : d.third < d.p
  pub gp_low : 2 ≤ d.third
  pub gp_inner : t.tag d.third ≡ k
  pub past_dummy : 2 < d.p
  pub alone : keys t d.l ≡ d.key ∷ []
  pub seen : ℕ
  pub clean : d.expected ≡ 4 * seen
  pub before : seen < r

-- what never changes about a record in use
pub record Good (k u : ℕ) (t : View) (d : Desc) (r : ℕ) : Type 0 where
  pub finite : d.key < infinity
  pub inner : t.tag d.p ≡ k
  pub low : 2 ≤ d.p
  pub leaf : t.tag d.l ≢ k
  pub above : d.p < d.l
  pub used : d.l ≤ u
  pub replace : d.kind ≡ 1 → GoodReplace k u t d
  pub prune : d.kind ≡ 2 → GoodPrune k t d r

-- where a clean word's record number comes from: none yet, a flag of that record taken back, or the record's own sprout
pub data Origin (m : ℕ) (T : ℕ → Desc) (n c : ℕ) : Type 0 where
  never : c ≡ 0 → Origin m T n c
  replace_over : In m c → (T c).kind ≡ 1 → (T c).p ≡ n → Origin m T n c
  prune_over : In m c → (T c).kind ≡ 2 → (T c).third ≡ n → Origin m T n c
  sprout_born : In m c → (T c).kind ≡ 1 → (T c).third ≡ n → Origin m T n c

-- a pending word says its kind and record
pub data Word (m : ℕ) (T : ℕ → Desc) (n w : ℕ) : Type 0 where
  clean : (c : ℕ) → w ≡ 4 * c → Origin m T n c → Word m T n w
  replacing : (r : ℕ) → w ≡ 4 * r + 1 → In m r → (T r).kind ≡ 1 → (T r).p ≡ n → Word m T n w
  pruning : (r : ℕ) → w ≡ 4 * r + 2 → In m r → (T r).kind ≡ 2 → (T r).third ≡ n → Word m T n w
  marked : (r : ℕ) → w ≡ 4 * r + 3 → In m r → (T r).kind ≡ 2 → (T r).p ≡ n → Word m T n w

-- a node that a record names and that was in the tree when the record was drawn. (A prune's l may have left it by then.)
pub data Names (d : Desc) (n : ℕ) : Type 0 where
  is_l : d.kind ≡ 1 → d.l ≡ n → Names d n
  is_p : d.p ≡ n → Names d n
  is_gp : d.kind ≡ 2 → d.third ≡ n → Names d n

-- a prune that can never mark
pub record Dropped (t : View) (d : Desc) (r : ℕ) : Type 0 where
  pub late : rank d.expected < rank (t.pend d.p)
  pub unmarked : t.pend d.p ≢ 4 * r + 3

module _ (k : ℕ) where
  -- a replace that stands and is not done
  pub record Waits (t : View) (d : Desc) (r : ℕ) : Type 0 where
    pub flag : t.pend d.p ≡ 4 * r + 1
    pub on : On k t d.key d.p
    pub at : t.child d.p (route k (t.key d.p) d.key) ≡ d.l
    pub unborn : Unborn k t d.third

  -- a replace that is done
  pub record Over (t : View) (d : Desc) : Type 0 where
    pub no_child : NoChild k t d.p d.l
    pub gone : Reach k t d.l → ⊥

  -- a prune that stands and is not done: gp is flagged and has p for a child
  pub record Held (t : View) (d : Desc) (r : ℕ) : Type 0 where
    pub flag : t.pend d.third ≡ 4 * r + 2
    pub on : On k t d.key d.third
    pub at : t.child d.third (route k (t.key d.third) d.key) ≡ d.p

  pub record Asks (t : View) (d : Desc) (r : ℕ) : Type 0 where
    pub held : Held t d r
    pub age : rank d.expected ≤ rank (t.pend d.p)
    pub fine : t.pend d.p ≡ d.expected → Pair k t d.key d.p d.l
    pub unmarked : t.pend d.p ≢ 4 * r + 3

  pub record Marked (t : View) (d : Desc) (r : ℕ) : Type 0 where
    pub held : Held t d r
    pub mark : t.pend d.p ≡ 4 * r + 3
    pub fine : Pair k t d.key d.p d.l

  pub record Finished (t : View) (d : Desc) (r : ℕ) : Type 0 where
    pub mark : t.pend d.p ≡ 4 * r + 3
    pub fine : Pair k t d.key d.p d.l
    pub no_child : NoChild k t d.third d.p
    pub gone : Reach k t d.p → ⊥

  pub data Status (t : View) (d : Desc) (r : ℕ) : Type 0 where
    waits : d.kind ≡ 1 → Waits t d r → Status t d r
    over : d.kind ≡ 1 → Over t d → Status t d r
    asks : d.kind ≡ 2 → Asks t d r → Status t d r
    stands_marked : d.kind ≡ 2 → Marked t d r → Status t d r
    finished : d.kind ≡ 2 → Finished t d r → Status t d r
    dropped : d.kind ≡ 2 → Dropped t d r → Status t d r

  -- u nodes and m records in use. `apart`, `named`: facts over two records stand beside the statuses
  pub record Inv (u m : ℕ) (T : ℕ → Desc) (t : View) : Type 0 where
    pub shape : Shape k u t
    pub uniq : Uniq k t
    pub ordered : Ordered k t
    pub pending : (n : ℕ) → In u n → Word m T n (t.pend n)
    pub good : (r : ℕ) → In m r → Good k u t (T r) r
    pub status : (r : ℕ) → In m r → Status t (T r) r
    pub apart : (r q : ℕ) → In m r → In m q → (T r).kind ≡ 1 → (T q).kind ≡ 1 → r < q → (T r).third + span k (t.tag (T r).third) < (T q).third
    pub named : (r q n : ℕ) → In m r → In m q → (T r).kind ≡ 1 → Names (T q) n → NewOf k t (T r).third n → Over t (T r)

-- the invariant of what the processes share
pub record Sound (k : ℕ) (S : Shared) : Type 0 where
  pub inv : Inv k S.nodes S.records S.rec S.view

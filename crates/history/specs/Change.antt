-- The seven touches that change what is shared. Each premise is what the process at that point knows, or what its
-- compare-and-swap shows.
use Rattle.std.specs.Prelude.{◌≡◌, ◌≢◌, ◌⊎◌, ℕ, zero, suc, ◌+◌, ◌*◌, ◌-◌, ◌/◌, ◌%◌, ◌≤◌, ◌<◌, get_or}
use mathlib.Core.List.{List, [], ◌∷◌, Memᴰ}
use Rattle.tables.specs.Numbers.{infinity}
use Rattle.nodes.specs.Keys.{put_in, taken_out}
use Rattle.history.specs.View.{View, In, route, keys, On}
use Rattle.history.specs.Shared.{Desc, Shared, Done, Failed, Pair}

-- a pending word's age: flags, then clean, then mark of one record; every change of a pending raises it
unfoldable pub age_of_kind : ℕ → ℕ
age_of_kind zero = 1
age_of_kind (suc zero) = 0
age_of_kind (suc (suc zero)) = 0
age_of_kind (suc (suc (suc n))) = 2

unfoldable pub rank : ℕ → ℕ
rank w = 3 * (w / 4) + age_of_kind (w % 4)

-- of the nodes up to u, only child i of p changed. (What a table says beyond its nodes, or at no child's index, is nobody's concern.)
pub record SwapChild (k u : ℕ) (t t' : View) (p i v : ℕ) : Type 0 where
  pub tag_same : (n : ℕ) → In u n → t'.tag n ≡ t.tag n
  pub key_same : (n : ℕ) → In u n → t'.key n ≡ t.key n
  pub pend_same : (n : ℕ) → In u n → t'.pend n ≡ t.pend n
  pub child_same : (n j : ℕ) → In u n → In k j → ¬ ((n ≡ p) × (j ≡ i)) → t'.child n j ≡ t.child n j
  pub child_new : t'.child p i ≡ v

-- of the nodes up to u, only x's pending changed
pub record SwapPend (k u : ℕ) (t t' : View) (x v : ℕ) : Type 0 where
  pub tag_same : (n : ℕ) → In u n → t'.tag n ≡ t.tag n
  pub key_same : (n : ℕ) → In u n → t'.key n ≡ t.key n
  pub child_same : (n j : ℕ) → In u n → In k j → t'.child n j ≡ t.child n j
  pub pend_same : (n : ℕ) → In u n → n ≢ x → t'.pend n ≡ t.pend n
  pub pend_new : t'.pend x ≡ v

-- counts and records are as they were
pub record SameTables (S S' : Shared) : Type 0 where
  pub nodes_same : S'.nodes ≡ S.nodes
  pub records_same : S'.records ≡ S.records
  pub rec_same : (q : ℕ) → In S.records q → S'.rec q ≡ S.rec q

-- the words of a new replace record, and of a new prune record
abbrev pub replace_words : ℕ → ℕ → ℕ → ℕ → ℕ → ℕ → Desc
replace_words l p new process operation x =
    record { kind = 1; l = l; p = p; third = new; expected = 0; process = process; operation = operation; key = x }

abbrev pub prune_words : ℕ → ℕ → ℕ → ℕ → ℕ → ℕ → Desc
prune_words l p gp expected process x =
    record { kind = 2; l = l; p = p; third = gp; expected = expected; process = process; operation = 3; key = x }

-- record r is drawn, with the words d
pub record NewRecord (S S' : Shared) (r : ℕ) (d : Desc) : Type 0 where
  pub next : r ≡ S.records + 1
  pub counted : S'.records ≡ r
  pub words : S'.rec r ≡ d
  pub rec_same : (q : ℕ) → In S.records q → S'.rec q ≡ S.rec q

-- a drawn leaf
pub record NewLeaf (t : View) (n : ℕ) (ks : List ℕ) : Type 0 where
  pub row : keys t n ≡ ks
  pub clean : t.pend n ≡ 0

-- a drawn internal node with the largest of k keys, over k leaves of one key each, ascending
pub record Sprout (k : ℕ) (t : View) (n r : ℕ) (ks : List ℕ) : Type 0 where
  pub inner : t.tag n ≡ k
  pub largest : (i : ℕ) → 1 ≤ i → i < k → t.key n i ≡ get_or ks i 0
  pub kids : (j : ℕ) → In k j → t.child n j ≡ n + j
  pub clean : t.pend n ≡ 4 * r
  pub leaf_tag : (j : ℕ) → In k j → t.tag (n + j) ≡ 1
  pub leaf_key : (j : ℕ) → In k j → t.key (n + j) 1 ≡ get_or ks (j - 1) 0
  pub leaf_clean : (j : ℕ) → In k j → t.pend (n + j) ≡ 0

-- what a replace of leaf l draws from node n on, and how many nodes that takes
pub data Drawn (k : ℕ) (t t' : View) (n r operation x l size : ℕ) : Type 0 where
  put_leaf : operation ≡ 2 → ¬ Memᴰ x (keys t l) → t.tag l + 1 < k → NewLeaf t' n (put_in x (keys t l)) → size ≡ 1
      → Drawn k t t' n r operation x l size
  out_leaf : operation ≡ 3 → Memᴰ x (keys t l) → NewLeaf t' n (taken_out x (keys t l)) → size ≡ 1 → Drawn k t t' n r operation x l size
  sprout : operation ≡ 2 → ¬ Memᴰ x (keys t l) → t.tag l + 1 ≡ k → Sprout k t' n r (put_in x (keys t l)) → size ≡ k + 1
      → Drawn k t t' n r operation x l size

module _ (k : ℕ) where
  -- 4: p's pending, from the clean word read to replace r
  pub record DrawReplace (S S' : Shared) (r p : ℕ) : Type 0 where
    pub x : ℕ
    pub operation : ℕ
    pub process : ℕ
    pub l : ℕ
    pub seen : ℕ
    pub size : ℕ
    pub finite : x < infinity
    pub on : On k S.view x p
    pub inner : S.view.tag p ≡ k
    pub at : S.view.child p (route k (S.view.key p) x) ≡ l
    pub leaf : S.view.tag l ≢ k
    pub clean : S.view.pend p ≡ 4 * seen
    pub drawn : Drawn k S.view S'.view (S.nodes + 1) r operation x l size
    pub flag : SwapPend k S.nodes S.view S'.view p (4 * r + 1)
    pub counted : S'.nodes ≡ S.nodes + size
    pub record_new : NewRecord S S' r (replace_words l p (S.nodes + 1) process operation x)

  -- 5: gp's pending, from the clean word read to prune r. `age` and `fine` are what was read while p's pending was the expected word
  pub record DrawPrune (S S' : Shared) (r gp : ℕ) : Type 0 where
    pub x : ℕ
    pub process : ℕ
    pub p : ℕ
    pub l : ℕ
    pub seen : ℕ
    pub seen_p : ℕ
    pub finite : x < infinity
    pub on : On k S.view x gp
    pub inner : S.view.tag gp ≡ k
    pub at : S.view.child gp (route k (S.view.key gp) x) ≡ p
    pub p_inner : S.view.tag p ≡ k
    pub past_dummy : 2 < p
    pub above : p < l
    pub used : l ≤ S.nodes
    pub alone : keys S.view l ≡ x ∷ []
    pub age : rank (4 * seen_p) ≤ rank (S.view.pend p)
    pub fine : S.view.pend p ≡ 4 * seen_p → Pair k S.view x p l
    pub clean : S.view.pend gp ≡ 4 * seen
    pub flag : SwapPend k S.nodes S.view S'.view gp (4 * r + 2)
    pub counted : S'.nodes ≡ S.nodes
    pub record_new : NewRecord S S' r (prune_words l p gp (4 * seen_p) process x)

  pub data Change (S S' : Shared) : Type 0 where
    draw_replace : (r p : ℕ) → DrawReplace S S' r p → Change S S'
    draw_prune : (r gp : ℕ) → DrawPrune S S' r gp → Change S S'
    -- 7: the compare shows l at child i of p
    swap_replace : (r i : ℕ) → In S.records r → (S.rec r).kind ≡ 1 → In k i → S.view.child (S.rec r).p i ≡ (S.rec r).l
        → SwapChild k S.nodes S.view S'.view (S.rec r).p i (S.rec r).third → SameTables S S' → Change S S'
    -- 8: the record is done
    unflag_replace : (r : ℕ) → In S.records r → (S.rec r).kind ≡ 1 → S.view.pend (S.rec r).p ≡ 4 * r + 1
        → Done k S.view (S.rec r) r
        → SwapPend k S.nodes S.view S'.view (S.rec r).p (4 * r) → SameTables S S' → Change S S'
    -- 9
    mark : (r : ℕ) → In S.records r → (S.rec r).kind ≡ 2 → S.view.pend (S.rec r).p ≡ (S.rec r).expected
        → SwapPend k S.nodes S.view S'.view (S.rec r).p (4 * r + 3) → SameTables S S' → Change S S'
    -- 13: p is marked, `other` is a child of p that is not empty and not l; the compare shows p at child i of gp
    swap_prune : (r i other : ℕ) → In S.records r → (S.rec r).kind ≡ 2 → S.view.pend (S.rec r).p ≡ 4 * r + 3
        → (j : ℕ) → In k j → S.view.child (S.rec r).p j ≡ other → S.view.tag other ≢ 0 → other ≢ (S.rec r).l
        → In k i → S.view.child (S.rec r).third i ≡ (S.rec r).p
        → SwapChild k S.nodes S.view S'.view (S.rec r).third i other → SameTables S S' → Change S S'
    -- 10, 14: the record has failed, or is done
    unflag_prune : (r : ℕ) → In S.records r → (S.rec r).kind ≡ 2 → S.view.pend (S.rec r).third ≡ 4 * r + 2
        → Done k S.view (S.rec r) r ⊎ Failed S.view (S.rec r) r
        → SwapPend k S.nodes S.view S'.view (S.rec r).third (4 * r) → SameTables S S' → Change S S'

-- The shape with new nodes: one leaf, or a sprout.
use mathlib.Core.Path.{◌≡◌, refl}
use mathlib.Core.Logic.Dec
use mathlib.Core.Logic.{◌≢◌}
use mathlib.Core.List.Memᴰ
use mathlib.Core.List.{List, [], ◌∷◌}
use Prim.Native.Nat.{ℕ, zero, suc, ◌+◌, ◌-◌, ◌≤◌, ◌<◌}
use native.Mathlib.Nat.{mul-suc, add-zero, add-suc}
use native.Mathlib.Numerals.{add-one}
use native.Mathlib.Decide.{ℕ_discrete, dec_lt, dec_le}
use native.Mathlib.Omega.{arith}
use Rattle.tables.specs.Numbers.{infinity}
use Rattle.tables.specs.Choice.{listed}
use Rattle.history.specs.View.{View, In, keys}
use Rattle.history.specs.Keys.{none, next}
use Rattle.history.specs.Change.{Sprout}
use Rattle.history.proofs.Brings.{keys_one}
use Rattle.history.proofs.Invariant.{counts, inner_count, Sorted, Shape}

pub counts_no : (k n tag : ℕ) → tag ≢ k → counts k n tag ≡ 0
unfolding counts
counts_no k n tag h = go (Dec.and (dec_lt 2 n) (ℕ_discrete tag k))
  where
    go : (d : Dec ((2 < n) × (tag ≡ k))) → ◌≡◌ {A = ℕ} (elim d [ yes e ↦ 1 | no e ↦ 0 ]) 0
    go (yes e) = absurd (h e.1)
    go (no e) = refl

pub counts_yes : (k n tag : ℕ) → 2 < n → tag ≡ k → counts k n tag ≡ 1
unfolding counts
counts_yes k n tag l h = go (Dec.and (dec_lt 2 n) (ℕ_discrete tag k))
  where
    go : (d : Dec ((2 < n) × (tag ≡ k))) → ◌≡◌ {A = ℕ} (elim d [ yes e ↦ 1 | no e ↦ 0 ]) 1
    go (yes e) = refl
    go (no e) = absurd (e (l, h))

pub counts_low : (k n tag : ℕ) → n ≤ 2 → counts k n tag ≡ 0
unfolding counts
counts_low k n tag h = go (Dec.and (dec_lt 2 n) (ℕ_discrete tag k))
  where
    go : (d : Dec ((2 < n) × (tag ≡ k))) → ◌≡◌ {A = ℕ} (elim d [ yes e ↦ 1 | no e ↦ 0 ]) 0
    go (yes e) = absurd (omega (arith, e.0))
    go (no e) = refl

-- d more nodes that are leaves
count_leaves : (k : ℕ) (t : View) (n d : ℕ) → ((j : ℕ) → In d j → t.tag (n + j) ≢ k) → inner_count k t (n + d) ≡ inner_count k t n
unfolding inner_count
count_leaves k t n zero h = rw add-zero
count_leaves k t n (suc d) h =
    rw (add-suc n d, counts_no k (suc (n + d)) (t.tag (suc (n + d))) (rw (← add-suc n d) (h (suc d) (omega arith))))
    (omega (arith, count_leaves k t n d (λ j i. h j (omega arith))))

sorted_one : (y : ℕ) → y < infinity → Sorted (y ∷ [])
sorted_one y h = record {
  rises = next (λ z m. absurd (Memᴰ.not-nil m)) none;
  finite = λ z m. go z (mathlib.Core.List.Memᴰ.eq_of_singleton m);
}
  where
    go : (z : ℕ) → z ≡ y → z < infinity
    go z e = omega arith

-- of the nodes after a sprout: an old one, the internal one, or a leaf below it
data Part (k u n : ℕ) : Type 0 where
  is_old : In u n → Part k u n
  is_top : n ≡ u + 1 → Part k u n
  is_kid : (j : ℕ) → In k j → n ≡ u + 1 + j → Part k u n

-- more nodes than u, of which those up to u are as they were
module _ {k u : ℕ} {t : View} (s : Shape k u t) where
  pub grow_leaf : t.tag (u + 1) < k → Sorted (keys t (u + 1)) → t.pend (u + 1) ≡ 0 → Shape k (u + 1) t
  unfolding inner_count
  grow_leaf q so c = record {
    crown = s.crown;
    tags = λ n h. tg n h (dec_le n u);
    above = λ n j h e i. s.above n j (old n h e) e i;
    used = λ n j h e i. omega (arith, s.used n j (old n h e) e i);
    leaf_keys = λ n h e. lk n h e (dec_le n u);
    inner_keys = λ n a b e. s.inner_keys n a (old n (omega arith) e).high e;
    leaf_clean = λ n h e. lc n h e (dec_le n u);
    room =
        rw (add-one u, counts_no k (suc u) (t.tag (suc u)) (rw (← add-one u) (λ z. omega arith)))
        (rw (zero_plus (inner_count k t u)) (omega (arith, s.room)));
  }
    where
      zero_plus : (a : ℕ) → 0 + a ≡ a
      zero_plus a = omega arith

      is : (n : ℕ) → In (u + 1) n → ¬ (n ≤ u) → n ≡ u + 1
      is n h d = omega arith

      old : (n : ℕ) → In (u + 1) n → t.tag n ≡ k → In u n
      old n h e = go (dec_le n u)
        where
          go : Dec (n ≤ u) → In u n
          go (yes z) = omega arith
          go (no z) = let y : t.tag (u + 1) ≡ k = rw (is n h z) at e in absurd (omega arith)

      tg : (n : ℕ) → In (u + 1) n → Dec (n ≤ u) → t.tag n ≤ k
      tg n h (yes z) = s.tags n (omega arith)
      tg n h (no z) = rw (is n h z) (omega arith)

      lk : (n : ℕ) → In (u + 1) n → t.tag n ≢ k → Dec (n ≤ u) → Sorted (keys t n)
      lk n h e (yes z) = s.leaf_keys n (omega arith) e
      lk n h e (no z) = rw (is n h z) so

      lc : (n : ℕ) → In (u + 1) n → t.tag n ≢ k → Dec (n ≤ u) → t.pend n ≡ 0
      lc n h e (yes z) = s.leaf_clean n (omega arith) e
      lc n h e (no z) = rw (is n h z) c

  pub grow_sprout : {r : ℕ} {ks : List ℕ} → 2 ≤ k → Sprout k t (u + 1) r ks → Sorted (listed (t.key (u + 1)) 1 (k - 1))
      → ((j : ℕ) → In k j → t.key (u + 1 + j) 1 < infinity) → Shape k (u + (k + 1)) t
  unfolding inner_count
  grow_sprout {r} {ks} hk p so fin = record {
    crown = s.crown;
    tags = λ n h. tg n h (part n h);
    above = λ n j h e i. up n j h e i (part n h);
    used = λ n j h e i. us n j h e i (part n h);
    leaf_keys = λ n h e. lk n h e (part n h);
    inner_keys = λ n a b e. ik n a e (part n (omega arith));
    leaf_clean = λ n h e. lc n h e (part n h);
    room = rw (total, mul-suc k (inner_count k t u)) (omega (arith, s.room));
  }
    where
      total : inner_count k t (u + (k + 1)) ≡ suc (inner_count k t u)
      total =
          let e : u + (k + 1) ≡ u + 1 + k = omega arith in
          let f : counts k (suc u) (t.tag (suc u)) ≡ 1 =
          counts_yes k (suc u) (t.tag (suc u)) (omega (arith, s.room)) (rw (← add-one u) p.inner) in
          rw (e, count_leaves k t (u + 1) k (λ j i z. omega (arith, p.leaf_tag j i)), add-one u) (omega arith)

      part : (n : ℕ) → In (u + (k + 1)) n → Part k u n
      part n h = go (dec_le n u) (dec_le n (u + 1))
        where
          go : Dec (n ≤ u) → Dec (n ≤ u + 1) → Part k u n
          go (yes z) c = is_old (omega arith)
          go (no z) (yes y) = is_top (omega arith)
          go (no z) (no y) = is_kid (n - (u + 1)) (omega arith) (omega arith)

      tg : (n : ℕ) → In (u + (k + 1)) n → Part k u n → t.tag n ≤ k
      tg n h (is_old a) = s.tags n a
      tg n h (is_top e) = rw (e, p.inner) (omega arith)
      tg n h (is_kid j i e) = rw (e, p.leaf_tag j i) (omega arith)

      up : (n j : ℕ) → In (u + (k + 1)) n → t.tag n ≡ k → In k j → Part k u n → n < t.child n j
      up n j h e i (is_old a) = s.above n j a e i
      up n j h e i (is_top z) = rw (z, p.kids j i) (omega (arith, i.low))
      up n j h e i (is_kid a b z) = absurd (let y : t.tag (u + 1 + a) ≡ k = rw z at e in omega (arith, p.leaf_tag a b))

      us : (n j : ℕ) → In (u + (k + 1)) n → t.tag n ≡ k → In k j → Part k u n → t.child n j ≤ u + (k + 1)
      us n j h e i (is_old a) = omega (arith, s.used n j a e i)
      us n j h e i (is_top z) = rw (z, p.kids j i) (omega (arith, i.high))
      us n j h e i (is_kid a b z) = absurd (let y : t.tag (u + 1 + a) ≡ k = rw z at e in omega (arith, p.leaf_tag a b))

      lk : (n : ℕ) → In (u + (k + 1)) n → t.tag n ≢ k → Part k u n → Sorted (keys t n)
      lk n h e (is_old a) = s.leaf_keys n a e
      lk n h e (is_top z) = absurd (e (rw z p.inner))
      lk n h e (is_kid j i z) = rw (z, keys_one t (u + 1 + j) (p.leaf_tag j i)) (sorted_one (t.key (u + 1 + j) 1) (fin j i))

      ik : (n : ℕ) → 2 < n → t.tag n ≡ k → Part k u n → Sorted (listed (t.key n) 1 (k - 1))
      ik n a e (is_old b) = s.inner_keys n a b.high e
      ik n a e (is_top z) = rw z so
      ik n a e (is_kid j i z) = absurd (let y : t.tag (u + 1 + j) ≡ k = rw z at e in omega (arith, p.leaf_tag j i))

      lc : (n : ℕ) → In (u + (k + 1)) n → t.tag n ≢ k → Part k u n → t.pend n ≡ 0
      lc n h e (is_old a) = s.leaf_clean n a e
      lc n h e (is_top z) = absurd (e (rw z p.inner))
      lc n h e (is_kid j i z) = rw z (p.leaf_clean j i)

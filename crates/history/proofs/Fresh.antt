-- The fresh tree meets the invariant, and its set is empty.
use mathlib.Core.Path.{◌≡◌, refl}
use mathlib.Core.Logic.{◌≢◌}
use mathlib.Core.List.{List, [], ◌∷◌, Memᴰ}
use Prim.Native.Nat.{ℕ, zero, suc, ◌+◌, ◌≤◌, ◌<◌}
use native.Mathlib.Nat.{mul-zero}
use native.Mathlib.Decide.{ℕ_discrete, dec_le}
use native.Mathlib.Omega.{arith}
use Rattle.history.specs.View.{View, In, keys, Holds, Ordered}
use Rattle.history.specs.Keys.{Rises, none}
use Rattle.history.specs.Shared.{Shared}
use Rattle.history.specs.Fresh.{Fresh}
use Rattle.history.proofs.Paths.{Uniq}
use Rattle.history.proofs.Invariant.{counts, inner_count, Sorted, Shape, never, clean, Sound}
use Rattle.history.proofs.Touch.{reach_used}
use Rattle.history.proofs.Grow.{counts_no, counts_low}
use Rattle.history.proofs.SetLaws.{empty_row}

-- no internal node above the dummy
count_none : (k : ℕ) (t : View) (n : ℕ) → ((a : ℕ) → 2 < a → a ≤ n → t.tag a ≢ k) → inner_count k t n ≡ 0
unfolding inner_count
count_none k t zero h = refl
count_none k t (suc n) h = go (dec_le (suc n) 2) (count_none k t n (λ a p q. h a p (omega arith)))
  where
    go : Dec (suc n ≤ 2) → inner_count k t n ≡ 0 → counts k (suc n) (t.tag (suc n)) + inner_count k t n ≡ 0
    go (yes z) ih = omega (arith, counts_low k (suc n) (t.tag (suc n)) z)
    go (no z) ih = omega (arith, counts_no k (suc n) (t.tag (suc n)) (h (suc n) (omega arith) (omega arith)))

empty_sorted : (t : View) (n : ℕ) → t.tag n ≡ 0 → Sorted (keys t n)
empty_sorted t n e = record { rises = row_none (keys t n) (λ y m. empty_row t n e m); finite = λ y m. absurd (empty_row t n e m) }
  where
    row_none : (ks : List ℕ) → ((y : ℕ) → Memᴰ y ks → ⊥) → Rises ks
    row_none [] h = none
    row_none (x ∷ xs) h = absurd (h x (mathlib.Core.List.Memᴰ.head refl))

module _ {k : ℕ} {S : Shared} (hk : 2 ≤ k) (f : Fresh k S) where
  -- the internal nodes are the first two
  inner_low : (n : ℕ) → In S.nodes n → S.view.tag n ≡ k → n ≤ 2
  inner_low n h e = go (dec_le n 2)
    where
      go : Dec (n ≤ 2) → n ≤ 2
      go (yes z) = z
      go (no z) = absurd (omega (arith, f.leaf_tag n (omega arith) (omega (arith, h.high, f.nodes))))

  leaf_high : (n : ℕ) → In S.nodes n → S.view.tag n ≢ k → S.view.tag n ≡ 0
  leaf_high n h d = go (ℕ_discrete n 1) (ℕ_discrete n 2)
    where
      go : Dec (n ≡ 1) → Dec (n ≡ 2) → S.view.tag n ≡ 0
      go (yes a) b = absurd (d (rw a f.root_tag))
      go (no a) (yes b) = absurd (d (rw b f.dummy_tag))
      go (no a) (no b) = f.leaf_tag n (omega (arith, h.low)) (omega (arith, h.high, f.nodes))

  -- a child of an internal node: of the root, or of the dummy
  data Kid (n j : ℕ) : Type 0 where
    of_root : n ≡ 1 → S.view.child n j ≡ j + 1 → Kid n j
    of_dummy : n ≡ 2 → S.view.child n j ≡ k + 1 + j → Kid n j

  kid : (n j : ℕ) → In S.nodes n → S.view.tag n ≡ k → In k j → Kid n j
  kid n j h e i = go (ℕ_discrete n 1)
    where
      go : Dec (n ≡ 1) → Kid n j
      go (yes a) = of_root a (rw a (f.root_kids j i))
      go (no a) = let b : n ≡ 2 = omega (arith, h.low, inner_low n h e) in of_dummy b (rw b (f.dummy_kids j i))

  fresh_shape : Shape k S.nodes S.view
  fresh_shape = record {
    crown = record {
      root_inner = f.root_tag;
      dummy_inner = f.dummy_tag;
      root_keys = f.root_keys;
      dummy_keys = f.dummy_keys;
      first = f.root_kids 1 (omega arith);
      root_rest = λ j a b. rw (f.root_kids j (omega arith)) (f.leaf_tag (j + 1) (omega arith) (omega arith));
      dummy_rest = λ j a b. rw (f.dummy_kids j (omega arith)) (f.leaf_tag (k + 1 + j) (omega arith) (omega arith));
    };
    tags = λ n h. tg n h (ℕ_discrete (S.view.tag n) k);
    above = λ n j h e i. up n j i (kid n j h e i);
    used = λ n j h e i. us n j i (kid n j h e i);
    leaf_keys = λ n h d. empty_sorted S.view n (leaf_high n h d);
    inner_keys = λ n a b e. absurd (omega (arith, inner_low n (omega arith) e));
    leaf_clean = λ n h d. f.clean n (omega (arith, h.low, h.high, f.nodes));
    room =
        rw (count_none k S.view S.nodes (λ a p q e. omega (arith, inner_low a (omega arith) e)), mul-zero k)
        (omega (arith, f.nodes));
  }
    where
      tg : (n : ℕ) → In S.nodes n → Dec (S.view.tag n ≡ k) → S.view.tag n ≤ k
      tg n h (yes e) = omega arith
      tg n h (no e) = omega (arith, leaf_high n h e)

      up : (n j : ℕ) → In k j → Kid n j → n < S.view.child n j
      up n j i (of_root a e) = omega (arith, i.low)
      up n j i (of_dummy a e) = omega (arith, i.low)

      us : (n j : ℕ) → In k j → Kid n j → S.view.child n j ≤ S.nodes
      us n j i (of_root a e) = omega (arith, i.high, f.nodes)
      us n j i (of_dummy a e) = omega (arith, i.high, f.nodes)

  fresh_uniq : Uniq k S.view
  fresh_uniq = record {
    one =
        λ m j m' j' o q i o' q' i' e. same m j m' j' i i' e (kid m j (reach_used (omega arith) fresh_shape o) q i)
        (kid m' j' (reach_used (omega arith) fresh_shape o') q' i');
    not_root =
        λ m j o q i e. omega (
          arith,
          fresh_shape.above m j (reach_used (omega arith) fresh_shape o) q i,
          reach_used (omega arith)
              fresh_shape o,
        );
  }
    where
      same : (m j m' j' : ℕ) → In k j → In k j' → S.view.child m j ≡ S.view.child m' j' → Kid m j → Kid m' j' → (m ≡ m') × (j ≡ j')
      same m j m' j' i i' e (of_root a x) (of_root b y) = omega arith
      same m j m' j' i i' e (of_root a x) (of_dummy b y) = absurd (omega (arith, i.high, i'.low))
      same m j m' j' i i' e (of_dummy a x) (of_root b y) = absurd (omega (arith, i.low, i'.high))
      same m j m' j' i i' e (of_dummy a x) (of_dummy b y) = omega arith

  pub fresh_empty : (x : ℕ) → ¬ Holds k S.view x
  fresh_empty x h =
      empty_row S.view h.node (leaf_high h.node (reach_used (omega arith) fresh_shape h.reached) h.leaf) h.has

  pub fresh_sound : Sound k S
  unfolding Ordered
  fresh_sound = record {
    inv = record {
      shape = fresh_shape;
      uniq = fresh_uniq;
      ordered = λ n x o q m. absurd (fresh_empty x (record { node = n; reached = o; leaf = q; has = m }));
      pending = λ n h. clean 0 (f.clean n (omega (arith, h.low, h.high, f.nodes))) (never refl);
      good = λ q h. absurd (no_record q h);
      status = λ q h. absurd (no_record q h);
      apart = λ a b h g. absurd (no_record a h);
      named = λ a b n h g. absurd (no_record a h);
    };
  }
    where
      no_record : (q : ℕ) → In S.records q → ⊥
      no_record q h = omega (arith, h.low, h.high, f.no_record)

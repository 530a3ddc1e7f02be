-- The walk from the root: it meets no node twice, never runs out, and its keys are the set, strictly ascending.
use mathlib.Core.Path.{◌≡◌, refl, sym, ◌∙◌}
use mathlib.Core.Logic.{◌≢◌, ◌⊎◌, inl, inr, ◌↔◌}
use mathlib.Core.List.Memᴰ
use mathlib.Core.List.{List, [], ◌∷◌, ◌++◌, Memᴰ}
use mathlib.Core.List.{flatten}
use Prim.Native.Nat.{ℕ, zero, suc, ◌+◌, ◌≤◌, ◌<◌}
use native.Mathlib.Decide.{ℕ_discrete}
use native.Mathlib.Omega.{arith}
use lib.ListN.{length}
use Rattle.tables.specs.Choice.{listed}
use Rattle.history.specs.View.{View, In, route, keys, Below, top, by, Reach, HasBelow, Holds, Ordered}
use Rattle.history.specs.Keys.{Each, none, next, Rises, Apart}
use Rattle.history.specs.Shared.{Shared}
use Rattle.history.specs.Walk.{nodes_of, keys_of}
use Rattle.history.proofs.Route.{route_order}
use Rattle.history.proofs.Rows.{each_append, apart_length}
use Rattle.history.proofs.Paths.{Uniq}
use Rattle.history.proofs.Invariant.{Shape, Sound}
use Rattle.history.proofs.Touch.{below_up, reach_used}
use Rattle.history.proofs.SearchOrder.{below_reach, figure_3}

-- membership in a row of rows
record Among (f : ℕ → List ℕ) (i d x : ℕ) : Type 0 where
  at : ℕ
  from : i ≤ at
  to : at < i + d
  mem : Memᴰ x (f at)

concat_mem : (f : ℕ → List ℕ) (i d : ℕ) {x : ℕ} → Memᴰ x (flatten (listed f i d)) → Among f i d x
unfolding flatten listed
concat_mem f i zero m = absurd (Memᴰ.not-nil m)
concat_mem f i (suc d) {x} m = go (Memᴰ.append_cases (f i) m) (λ (h : Memᴰ x (flatten (listed f (i + 1) d))). concat_mem f (i + 1) d h)
  where
    go : Memᴰ x (f i) ⊎ Memᴰ x (flatten (listed f (i + 1) d)) → (Memᴰ x (flatten (listed f (i + 1) d)) → Among f (i + 1) d x)
        → Among f i (suc d) x
    go (inl h) ih = record { at = i; from = omega arith; to = omega arith; mem = h }
    go (inr h) ih = let a = ih h in record { at = a.at; from = omega (arith, a.from); to = omega (arith, a.to); mem = a.mem }

mem_concat : (f : ℕ → List ℕ) (i d j : ℕ) {x : ℕ} → i ≤ j → j < i + d → Memᴰ x (f j) → Memᴰ x (flatten (listed f i d))
unfolding flatten listed
mem_concat f i zero j h l m = absurd (omega arith)
mem_concat f i (suc d) j {x} h l m = go (ℕ_discrete i j) (λ (h' : i ≢ j). mem_concat f (i + 1) d j (omega arith) (omega arith) m)
  where
    go : Dec (i ≡ j) → (i ≢ j → Memᴰ x (flatten (listed f (i + 1) d))) → Memᴰ x (f i ++ flatten (listed f (i + 1) d))
    go (yes e) ih = Memᴰ.append_left {s = f i} _ (rw e m)
    go (no e) ih = Memᴰ.append_right (f i) (ih e)

concat_each : {R : ℕ → ℕ → Type 0} (f : ℕ → List ℕ) (i d : ℕ) → ((a : ℕ) → i ≤ a → a < i + d → Each R (f a))
    → ((a b x y : ℕ) → i ≤ a → a < b → b < i + d → Memᴰ x (f a) → Memᴰ y (f b) → R x y) → Each R (flatten (listed f i d))
unfolding flatten listed
concat_each f i zero h g = none
concat_each f i (suc d) h g =
    each_append (f i) (flatten (listed f (i + 1) d)) (h i (omega arith) (omega arith))
    (concat_each f (i + 1) d (λ a p q. h a (omega arith) (omega arith)) (λ a b x y p q r. g a b x y (omega arith) q (omega arith)))
    (λ x y m n. let c = concat_mem f (i + 1) d n in g i c.at x y (omega arith) (omega (arith, c.from)) (omega (arith, c.to)) m
    c.mem)

module _ (k : ℕ) (t : View) where
  -- from a child of n on down
  below_child : {n m : ℕ} (j : ℕ) → t.tag n ≡ k → In k j → Below k t (t.child n j) m → Below k t n m
  below_child j q s b = below_reach (by j (top refl) q s refl) b

  -- n itself, or below one of its children
  data Split (n m : ℕ) : Type 0 where
    itself : m ≡ n → Split n m
    further : (j : ℕ) → t.tag n ≡ k → In k j → Below k t (t.child n j) m → Split n m

  split : {n m : ℕ} → Below k t n m → Split n m
  split (top e) = itself e
  split {n} {m} (by {m = a} i b q s e) = go (split b)
    where
      go : Split n a → Split n m
      go (itself z) = let q' : t.tag n ≡ k = rw z at q in further i q' s (top (rw z at e))
      go (further j q₁ s₁ c) = further j q₁ s₁ (by i c q s e)

  nodes_below : (f n : ℕ) {m : ℕ} → Memᴰ m (nodes_of k t f n) → Below k t n m
  unfolding nodes_of
  nodes_below zero n m₁ = absurd (Memᴰ.not-nil m₁)
  nodes_below (suc f) n {m} m₁ =
      go (ℕ_discrete (t.tag n) k) m₁ (λ (i : ℕ) (h : Memᴰ m (nodes_of k t f (t.child n i))). nodes_below f (t.child n i) h)
    where
      inside : t.tag n ≡ k → (m ≡ n) ⊎ Memᴰ m (flatten (listed (λ i. nodes_of k t f (t.child n i)) 1 k))
          → ((i : ℕ) → Memᴰ m (nodes_of k t f (t.child n i)) → Below k t (t.child n i) m) → Below k t n m
      inside q (inl e) ih = top e
      inside q (inr h) ih =
          let a = concat_mem (λ (i : ℕ). nodes_of k t f (t.child n i)) 1 k h in
          below_child a.at q (omega (arith, a.from, a.to)) (ih a.at a.mem)

      outside : (m ≡ n) ⊎ Memᴰ m [] → Below k t n m
      outside (inl e) = top e
      outside (inr h) = absurd (Memᴰ.not-nil h)

      go : (d : Dec (t.tag n ≡ k)) → Memᴰ m (n ∷ elim d [ yes q ↦ flatten (listed (λ i. nodes_of k t f (t.child n i)) 1 k) | no q ↦ [] ])
          → ((i : ℕ) → Memᴰ m (nodes_of k t f (t.child n i)) → Below k t (t.child n i) m) → Below k t n m
      go (yes q) h ih = inside q (Memᴰ.cases_cons h) ih
      go (no q) h ih = outside (Memᴰ.cases_cons h)

  keys_stand : (f n : ℕ) {x : ℕ} → Memᴰ x (keys_of k t f n) → HasBelow k t n x
  unfolding keys_of
  keys_stand zero n m = absurd (Memᴰ.not-nil m)
  keys_stand (suc f) n {x} m =
      go (ℕ_discrete (t.tag n) k) m (λ (i : ℕ) (h : Memᴰ x (keys_of k t f (t.child n i))). keys_stand f (t.child n i) h)
    where
      go : (d : Dec (t.tag n ≡ k)) → Memᴰ x (elim d [ yes q ↦ flatten (listed (λ i. keys_of k t f (t.child n i)) 1 k) | no q ↦ keys t n ])
          → ((i : ℕ) → Memᴰ x (keys_of k t f (t.child n i)) → HasBelow k t (t.child n i) x) → HasBelow k t n x
      go (yes q) h ih =
          let a = concat_mem (λ (i : ℕ). keys_of k t f (t.child n i)) 1 k h in
          let b = ih a.at a.mem in
          record { node = b.node; reached = below_child a.at q (omega (arith, a.from, a.to)) b.reached; leaf = b.leaf; has = b.has }
      go (no q) h ih = record { node = n; reached = top refl; leaf = q; has = h }

module _ {k u : ℕ} {t : View} (hk : 1 ≤ k) (s : Shape k u t) (un : Uniq k t) where
  under_kid : {n m : ℕ} (j : ℕ) → Reach k t n → t.tag n ≡ k → In k j → m ≡ n → Below k t (t.child n j) m → ⊥
  under_kid {n} j o q i e b =
      let h = reach_used hk s o in
      omega (arith, s.above n j h q i, (below_up s (reach_used hk s (by j o q i refl)) b).1)

  -- no node is below two children of one
  siblings : {n i j m : ℕ} → Reach k t n → t.tag n ≡ k → In k i → In k j → Below k t (t.child n i) m → Below k t (t.child n j) m → i ≡ j
  siblings {n} {i} {j} o q si sj (top e) (top e') = (un.one n i n j o q si o q sj (sym e ∙ e')).1
  siblings {n} {i} {j} o q si sj (top e) (by {m = a} j' b q' s' e') =
      let z : n ≡ a = (un.one n i a j' o q si (below_reach (by j o q sj refl) b) q' s' (sym e ∙ e')).0 in
      absurd (under_kid j o q sj (sym z) b)
  siblings {n} {i} {j} o q si sj (by {m = a} i' b q' s' e) (top e') =
      let z : n ≡ a = (un.one n j a i' o q sj (below_reach (by i o q si refl) b) q' s' (sym e' ∙ e)).0 in
      absurd (under_kid i o q si (sym z) b)
  siblings {n} {i} {j} o q si sj (by {m = a} i' b q' s' e) (by {m = c} j' b' q'' s'' e') =
      let z : a ≡ c =
      (un.one a i' c j' (below_reach (by i o q si refl) b) q' s' (below_reach (by j o q sj refl) b') q'' s'' (sym e ∙ e')).0 in
      siblings o q si sj b (rw z b')

  nodes_apart : (f n : ℕ) → Reach k t n → Apart (nodes_of k t f n)
  unfolding nodes_of
  nodes_apart zero n o = none
  nodes_apart (suc f) n o = go (ℕ_discrete (t.tag n) k) (λ (a : ℕ) (b : Reach k t (t.child n a)). nodes_apart f (t.child n a) b)
    where
      go : (d : Dec (t.tag n ≡ k)) → ((a : ℕ) → Reach k t (t.child n a) → Apart (nodes_of k t f (t.child n a)))
          → Apart (n ∷ elim d [ yes q ↦ flatten (listed (λ i. nodes_of k t f (t.child n i)) 1 k) | no q ↦ [] ])
      go (yes q) ih =
          next other (concat_each (λ (i : ℕ). nodes_of k t f (t.child n i)) 1 k (λ a p r. ih a (by a o q (omega arith) refl)) apart)
        where
          other : (y : ℕ) → Memᴰ y (flatten (listed (λ i. nodes_of k t f (t.child n i)) 1 k)) → n ≢ y
          other y m e =
              let c = concat_mem (λ (i : ℕ). nodes_of k t f (t.child n i)) 1 k m in
              under_kid c.at o q (omega (arith, c.from, c.to)) (sym e) (nodes_below k t f (t.child n c.at) c.mem)

          apart : (a b x y : ℕ) → 1 ≤ a → a < b → b < 1 + k → Memᴰ x (nodes_of k t f (t.child n a))
              → Memᴰ y (nodes_of k t f (t.child n b)) → x ≢ y
          apart a b x y p l r m m' e =
              let z = siblings {i = a} {j = b} {m = x} o q (omega arith) (omega arith) (nodes_below k t f (t.child n a) m) (rw e (nodes_below k t f (t.child n b) m')) in
              omega arith
      go (no q) ih = next (λ y m. absurd (Memᴰ.not-nil m)) none

  nodes_few : (f n : ℕ) → Reach k t n → length (nodes_of k t f n) ≤ u
  nodes_few f n o =
      apart_length u (nodes_of k t f n) (nodes_apart f n o)
      (λ y m. let h = (below_up s (reach_used hk s o) (nodes_below k t f n m)).0 in (h.low, h.high))

  keys_all : (f n : ℕ) {m x : ℕ} → Reach k t n → u < n + f → Below k t n m → t.tag m ≢ k → Memᴰ x (keys t m)
      → Memᴰ x (keys_of k t f n)
  unfolding keys_of
  keys_all zero n o h b q mm = absurd (omega (arith, reach_used hk s o))
  keys_all (suc f) n {m} {x} o h b q mm =
      go (ℕ_discrete (t.tag n) k) (split k t b)
      (λ (j : ℕ) (c : Reach k t (t.child n j)) (e : u < t.child n j + f) (g : Below k t (t.child n j) m). keys_all f (t.child n j)
      c e g q mm)
    where
      go : (d : Dec (t.tag n ≡ k)) → Split k t n m
          → ((j : ℕ) → Reach k t (t.child n j) → u < t.child n j + f → Below k t (t.child n j) m → Memᴰ x (keys_of k t f (t.child n j)))
          → Memᴰ x (elim d [ yes q ↦ flatten (listed (λ i. keys_of k t f (t.child n i)) 1 k) | no q ↦ keys t n ])
      go (yes w) (itself e) ih = absurd (q (rw e w))
      go (no w) (itself e) ih = rw e at mm
      go (yes w) (further j w' i c) ih =
          mem_concat (λ (i : ℕ). keys_of k t f (t.child n i)) 1 k j (omega (arith, i.low)) (omega (arith, i.high))
          (ih j (by j o w i refl) (omega (arith, s.above n j (reach_used hk s o) w i)) c)
      go (no w) (further j w' i c) ih = absurd (w w')

  keys_rise : Ordered k t → (f n : ℕ) → Reach k t n → Rises (keys_of k t f n)
  unfolding keys_of
  keys_rise ord zero n o = none
  keys_rise ord (suc f) n o = go (ℕ_discrete (t.tag n) k) (λ (a : ℕ) (b : Reach k t (t.child n a)). keys_rise ord f (t.child n a) b)
    where
      go : (d : Dec (t.tag n ≡ k)) → ((a : ℕ) → Reach k t (t.child n a) → Rises (keys_of k t f (t.child n a)))
          → Rises (elim d [ yes q ↦ flatten (listed (λ i. keys_of k t f (t.child n i)) 1 k) | no q ↦ keys t n ])
      go (no q) ih = (s.leaf_keys n (reach_used hk s o) q).rises
      go (yes q) ih = concat_each (λ (i : ℕ). keys_of k t f (t.child n i)) 1 k (λ a p r. ih a (by a o q (omega arith) refl)) less
        where
          to : (a x : ℕ) → In k a → Memᴰ x (keys_of k t f (t.child n a)) → route k (t.key n) x ≡ a
          to a x i m = let c = keys_stand k t f (t.child n a) m in figure_3 hk un ord n a c.node x o q i c.reached c.leaf c.has

          less : (a b x y : ℕ) → 1 ≤ a → a < b → b < 1 + k → Memᴰ x (keys_of k t f (t.child n a))
              → Memᴰ y (keys_of k t f (t.child n b)) → x < y
          less a b x y p l r m m' = route_order k (t.key n) hk x y (rw (to a x (omega arith) m, to b y (omega arith) m') l)

-- what the walk from the root does
pub record Listing (k : ℕ) (S : Shared) (deep : ℕ) : Type 0 where
  pub once : Apart (nodes_of k S.view deep 1)
  pub few : length (nodes_of k S.view deep 1) ≤ S.nodes
  pub reached : (n : ℕ) → Memᴰ n (nodes_of k S.view deep 1) → Reach k S.view n
  pub exact : (x : ℕ) → Memᴰ x (keys_of k S.view deep 1) ↔ Holds k S.view x
  pub ascending : Rises (keys_of k S.view deep 1)

pub listing : {k : ℕ} {S : Shared} (deep : ℕ) → 2 ≤ k → Sound k S → S.nodes ≤ deep → Listing k S deep
listing {k} {S} deep hk I hd = record {
  once = nodes_apart (omega arith) I.inv.shape I.inv.uniq deep 1 (top refl);
  few = nodes_few (omega arith) I.inv.shape I.inv.uniq deep 1 (top refl);
  reached = λ n m. nodes_below k S.view deep 1 m;
  exact =
      λ x. (
        λ m. keys_stand k S.view deep 1 m,
        λ h. keys_all (omega arith) I.inv.shape I.inv.uniq deep 1 (top refl)
            (omega arith) h.reached h.leaf h.has,
      );
  ascending = keys_rise (omega arith) I.inv.shape I.inv.uniq I.inv.ordered deep 1 (top refl);
}

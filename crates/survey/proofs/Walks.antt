-- The walk over a block that fits its header and is sound: it meets no damage, and its keys are the set, strictly ascending.
use Prim.Native.Nat.{ℕ, zero, suc, ◌+◌, ◌-◌, ◌≤◌, ◌<◌}
use mathlib.Core.Path.{◌≡◌, refl, sym, ap, ◌∙◌, subst}
use mathlib.Core.Logic.{◌≢◌, ◌↔◌}
use mathlib.Core.Bool.{true}
use mathlib.Core.List.{List, [], ◌∷◌, ◌++◌, Memᴰ, flatten, append-nil, append_assoc}
use native.Mathlib.Omega.{arith}
use native.Mathlib.Decide.{ℕ_discrete}
use lib.Dec.{eqb}
use lib.ListN.{length, length-append}
use borrow.Author.Tests.{lt-ltb, ne_eqb}
use Rattle.std.specs.Prelude.{Option, Some}
use Rattle.nodes.specs.declared.node.Kin.{Kin}
use Rattle.tables.specs.Choice.{pick, listed}
use Rattle.tables.specs.Layout.{tag_word, child_word}
use Rattle.nodes.specs.Node.{kin_of, child_of}
use Rattle.tables.specs.declared.header.Header.{Header}
use Rattle.nodes.specs.declared.node.Kin.TheVariants.{Leaf, Internal}
use Rattle.meter.specs.Walk.{Walk, walk, begin, spent, damaged, leaf_met, in_order, node_met, walk_of, walked}
use Rattle.tables.proofs.Picks.{both_true}
use Rattle.history.specs.View.{View, In, keys, Reach, top, by, Holds}
use Rattle.history.specs.Keys.{Rises}
use Rattle.history.specs.Walk.{nodes_of, keys_of}
use Rattle.history.proofs.Invariant.{Sound}
use Rattle.history.proofs.Touch.{reach_used}
use Rattle.history.proofs.Walking.{Listing, listing}
use Rattle.link.specs.Tables.{tables_of}
use Rattle.link.proofs.Writes.{Fit}
use Rattle.link.proofs.Keyed.{keys_are, sorted_rises}
use Rattle.link.proofs.Checks.{kin_is, kin_internal, kin_leaf}

-- the children of the history are put together from the first on, the walk's from the last back
flatten_last : (f : ℕ → List ℕ) (i d j : ℕ) → j ≡ i + d → flatten (listed f i (suc d)) ≡ flatten (listed f i d) ++ f j
unfolding flatten listed
flatten_last f i zero j e = let z : i ≡ j = omega arith in append-nil (f i) ∙ ap f z
flatten_last f i (suc d) j e =
    ap (λ (l : List ℕ). f i ++ l) (flatten_last f (i + 1) d j (omega arith)) ∙ sym (append_assoc (f i) (flatten (listed f (i + 1) d)) (f j))

-- where a walk stands that has gone on from w over so many nodes and these keys
abbrev onward : Walk → ℕ → List ℕ → Walk
onward w met ks = walk (w.allowed - met) (w.keys ++ ks) w.sound

onward_spent : (w : Walk) (met : ℕ) (ks : List ℕ) → onward (spent w) met ks ≡ onward w (suc met) ks
onward_spent w met ks = let z : w.allowed - 1 - met ≡ w.allowed - suc met = omega arith in rw z refl

onward_twice : (w : Walk) (m n p : ℕ) (ks js ls : List ℕ) → p ≡ m + n → ls ≡ ks ++ js → onward (onward w m ks) n js ≡ onward w p ls
onward_twice w m n p ks js ls e f = let z : w.allowed - m - n ≡ w.allowed - p = omega arith in rw (z, f, append_assoc w.keys ks js) refl

module _ (visit : ℕ → Walk → Walk) (f g : ℕ → List ℕ) where
  abbrev Visits : ℕ → Type 0
  Visits d = (i : ℕ) (v : Walk) → In d i → length (g i) ≤ v.allowed → visit i v ≡ onward v (length (g i)) (f i)

  order_meets : (d : ℕ) (w : Walk) → Visits d → length (flatten (listed g 1 d)) ≤ w.allowed
      → in_order visit d w ≡ onward w (length (flatten (listed g 1 d))) (flatten (listed f 1 d))
  unfolding in_order flatten listed
  order_meets zero w v l = let z : w.allowed - 0 ≡ w.allowed = omega arith in rw (z, append-nil w.keys) refl
  order_meets (suc d) w v l =
      let m : length (flatten (listed g 1 (suc d))) ≡ length (flatten (listed g 1 d)) + length (g (suc d)) =
      ap length (flatten_last g 1 d (suc d) (omega arith)) ∙ length-append (flatten (listed g 1 d)) (g (suc d)) in
      ap (visit (suc d)) (order_meets d w (λ i x u y. v i x (omega arith) y) (omega (arith, m)))
      ∙ v (suc d) (onward w (length (flatten (listed g 1 d))) (flatten (listed f 1 d))) (omega arith) (omega (arith, m))
      ∙ onward_twice w (length (flatten (listed g 1 d))) (length (g (suc d))) _ (flatten (listed f 1 d)) (f (suc d)) _ m (flatten_last f 1 d (suc d) (omega arith))

module _ {b : List ℕ} {h : Header} (fit : Fit h b) (I : Sound h.k (tables_of h b)) where
  abbrev k : ℕ
  k = h.k

  abbrev t : View
  t = (tables_of h b).view

  k_low : 1 ≤ k
  k_low = omega (arith, fit.limits.numbers.k_low)

  used : {n : ℕ} → Reach k t n → In h.nodesused n
  used o = reach_used k_low I.inv.shape o

  -- what a node of the tree is
  inner_is : (n : ℕ) → Reach k t n → tag_word b h n ≡ k → kin_of b h n ≡ Some (Internal n)
  inner_is n o e = kin_is b h n (used o) (omega arith) ∙ ap Some (kin_internal b h n e)

  leaf_is : (n : ℕ) → Reach k t n → tag_word b h n ≢ k → kin_of b h n ≡ Some (Leaf n (tag_word b h n))
  leaf_is n o e =
      let l = I.inv.shape.tags n (used o) in
      kin_is b h n (used o) l ∙ ap Some (kin_leaf b h n (omega (arith, l)))

  child_is : (n i : ℕ) → Reach k t n → tag_word b h n ≡ k → In k i → child_of b h n i ≡ kin_of b h (child_word b h n i)
  unfolding pick
  child_is n i o e u = rw (lt-ltb n (child_word b h n i) (I.inv.shape.above n i (used o) e u)) refl

  leaf_meets : (n : ℕ) (w : Walk) → Reach k t n → tag_word b h n ≢ k → leaf_met b h n (tag_word b h n) w ≡ walk w.allowed (w.keys ++ keys t n) w.sound
  leaf_meets n w o e =
      rw (keys_are b h n (omega (arith, I.inv.shape.tags n (used o))), sorted_rises (keys t n) (I.inv.shape.leaf_keys n (used o) e), both_true w.sound) refl

  -- deep enough and with enough nodes allowed, the walk from a node of the tree goes on over the history's nodes and keys
  abbrev Meets : ℕ → ℕ → Walk → Type 0
  Meets deep n w = walk_of deep b h (kin_of b h n) w ≡ onward w (length (nodes_of k t deep n)) (keys_of k t deep n)

  walk_meets : (deep n : ℕ) (w : Walk) → Reach k t n → h.nodesused < n + deep → length (nodes_of k t deep n) ≤ w.allowed → Meets deep n w
  unfolding walk_of nodes_of keys_of pick
  walk_meets zero n w o u l = absurd (omega (arith, used o))
  walk_meets (suc deep) n w o u l =
      go (ℕ_discrete (tag_word b h n) k) l
      (λ (c : ℕ) (v : Walk) (r : Reach k t c) (d : h.nodesused < c + deep) (y : length (nodes_of k t deep c) ≤ v.allowed). walk_meets deep c v r d y)
    where
      go : (d : Dec (tag_word b h n ≡ k)) → length {A = ℕ} (n ∷ elim d [ yes q ↦ flatten (listed (λ i. nodes_of k t deep (t.child n i)) 1 k) | no q ↦ [] ]) ≤ w.allowed
          → ((c : ℕ) (v : Walk) → Reach k t c → h.nodesused < c + deep → length (nodes_of k t deep c) ≤ v.allowed → Meets deep c v)
          → pick (eqb w.allowed 0) (damaged w) (node_met (λ c v. walk_of deep b h c v) b h (kin_of b h n) (spent w))
          ≡ onward w (length {A = ℕ} (n ∷ elim d [ yes q ↦ flatten (listed (λ i. nodes_of k t deep (t.child n i)) 1 k) | no q ↦ [] ]))
          (elim d [ yes q ↦ flatten (listed (λ i. keys_of k t deep (t.child n i)) 1 k) | no q ↦ keys t n ])
      go (yes q) y ih =
          rw (ne_eqb w.allowed 0 (λ z. omega arith), inner_is n o q)
          (order_meets (λ (i : ℕ) (v : Walk). walk_of deep b h (child_of b h n i) v) (λ (i : ℕ). keys_of k t deep (t.child n i)) (λ (i : ℕ). nodes_of k t deep (t.child n i)) k (spent w)
          (λ i v x z. ap (λ (c : Option Kin). walk_of deep b h c v) (child_is n i o q x)
          ∙ ih (child_word b h n i) v (by i o q x refl) (omega (arith, I.inv.shape.above n i (used o) q x)) z) (omega arith)
          ∙ onward_spent w _ _)
      go (no q) y ih =
          rw (ne_eqb w.allowed 0 (λ z. omega arith), leaf_is n o q) (leaf_meets n (spent w) o q)

  lists : Listing k (tables_of h b) h.nodesused
  lists = listing h.nodesused fit.limits.numbers.k_low I (omega arith)

  -- the walk from the root
  walk_is : walked b h ≡ walk (h.nodesused - length (nodes_of k t h.nodesused 1)) (keys_of k t h.nodesused 1) true
  walk_is = walk_meets h.nodesused 1 (begin h.nodesused) (top refl) (omega arith) lists.few

  pub walk_sound : (walked b h).sound ≡ true
  walk_sound = ap (λ (w : Walk). w.sound) walk_is

  keys_met_lem : (walked b h).keys ≡ keys_of k t h.nodesused 1
  keys_met_lem = ap (λ (w : Walk). w.keys) walk_is

  pub walk_keys : (x : ℕ) → Memᴰ x (walked b h).keys ↔ Holds k t x
  walk_keys x = subst (λ (ks : List ℕ). Memᴰ x ks ↔ Holds k t x) (sym keys_met_lem) (lists.exact x)

  pub walk_rises : Rises (walked b h).keys
  walk_rises = subst (λ (ks : List ℕ). Rises ks) (sym keys_met_lem) lists.ascending

-- A leaf's keys are fewer than 256 and the nodes of a walk fewer than 65536, so that no count of a walk's keys overflows.
use Prim.Native.Nat.{ℕ, zero, suc, ◌+◌, ◌*◌, ◌^◌, ◌≤◌, ◌<◌}
use mathlib.Core.Path.{◌≡◌, refl}
use mathlib.Core.Bool.{Bool, true, false}
use mathlib.Core.List.{List, []}
use native.Mathlib.Omega.{arith}
use lib.Dec.{ltb, eqb}
use lib.ListN.{length, length-append}
use borrow.Author.Tests.{eqb-false, ltb-true}
use Rattle.std.specs.Prelude.{Option, Some, None}
use Rattle.nodes.specs.declared.node.Kin.{Kin}
use Rattle.tables.specs.Choice.{pick}
use Rattle.tables.specs.Layout.{tag_word, child_word}
use Rattle.tables.specs.declared.header.Header.{Header}
use Rattle.nodes.specs.Node.{node_good, kin_of, child_of}
use Rattle.nodes.specs.Keys.{keys_of}
use Rattle.nodes.specs.declared.node.Kin.TheVariants.{Leaf, Internal}
use Rattle.nodes.proofs.Keyed.{keys_length}
use Rattle.meter.specs.Walk.{Walk, spent, damaged, in_order, node_met, walk_of, walked}

-- a leaf of so few keys, if it is one
abbrev Small : Option Kin → Type 0
Small (Some (Leaf node count)) = count < 256
Small (Some (Internal node)) = Unit {0}
Small None = Unit {0}

-- the keys met, and those of as many full leaves as there are nodes still allowed
abbrev size : Walk → ℕ
size w = length w.keys + 255 * w.allowed

size_order : (visit : ℕ → Walk → Walk) → ((i : ℕ) (w : Walk) → size (visit i w) ≤ size w) → (n : ℕ) (w : Walk) → size (in_order visit n w) ≤ size w
unfolding in_order
size_order visit e zero w = omega arith
size_order visit e (suc n) w = omega (arith, e (suc n) (in_order visit n w), size_order visit e n w)

module _ (b : List ℕ) (h : Header) (few : h.k < 256) where
  small_kin : (node : ℕ) → Small (kin_of b h node)
  unfolding pick
  small_kin node = go (node_good b h node) (ltb (tag_word b h node) h.k) refl
    where
      go : (s t : Bool) → ltb (tag_word b h node) h.k ≡ t → Small (pick s (Some (pick t (Leaf node (tag_word b h node)) (Internal node))) None)
      go true true e = omega (arith, ltb-true (tag_word b h node) h.k e)
      go true false e = tt
      go false t e = tt

  small_child : (node i : ℕ) → Small (child_of b h node i)
  unfolding pick
  small_child node i = go (ltb node (child_word b h node i)) (small_kin (child_word b h node i))
    where
      go : (t : Bool) → Small (kin_of b h (child_word b h node i)) → Small (pick t (kin_of b h (child_word b h node i)) None)
      go true s = s
      go false s = tt

  size_walk : (deep : ℕ) (child : Option Kin) (w : Walk) → Small child → size (walk_of deep b h child w) ≤ size w
  unfolding walk_of pick
  size_walk zero child w s = omega arith
  size_walk (suc deep) child w s = go (eqb w.allowed 0) refl child s (λ c v r. size_walk deep c v r)
    where
      go : (t : Bool) → eqb w.allowed 0 ≡ t → (c : Option Kin) → Small c → ((c : Option Kin) (v : Walk) → Small c → size (walk_of deep b h c v) ≤ size v) →
          size (pick t (damaged w) (node_met (λ c v. walk_of deep b h c v) b h c (spent w))) ≤ size w
      go true e c s up = omega arith
      go false e None s up = omega arith
      go false e (Some (Leaf node count)) s up =
          let some = eqb-false w.allowed 0 e in
          omega (arith, some, length-append w.keys (keys_of b h node count), keys_length b h node count)
      go false e (Some (Internal node)) s up =
          omega (arith, size_order (λ i v. walk_of deep b h (child_of b h node i) v) (λ i v. up (child_of b h node i) v (small_child node i)) h.k (spent w))

  pub few_keys : h.nodesused < 65536 → length (walked b h).keys < 2 ^ 32
  few_keys p =
      let q = size_walk h.nodesused (kin_of b h 1) (record { allowed = h.nodesused; keys = []; sound = true }) (small_kin 1) in
      omega (arith, q)

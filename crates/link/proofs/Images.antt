-- The words of a node that is written whole, by what they are: tag, keys, children, pending.
use Prim.Native.Nat.{ℕ, ◌+◌, ◌*◌, ◌-◌, ◌≤◌, ◌<◌}
use mathlib.Core.Path.{◌≡◌, refl, ap, ◌∙◌}
use mathlib.Core.List.{List}
use native.Mathlib.Omega.{arith}
use borrow.Author.Tests.{lt-ltb, le-ltb, eq-eqb, ne_eqb}
use lib.ListN.{get_or}
use Rattle.tables.specs.Choice.{pick}
use Rattle.tables.specs.Numbers.{node_words, key_room}
use Rattle.tables.specs.Layout.{child_place, pending_place}
use Rattle.nodes.specs.Node.{image_word, node_image}
use Rattle.nodes.specs.Keys.{key_array}
use Rattle.tables.proofs.Lists.{get_or-listed₀}
use Rattle.history.specs.View.{In}

module _ (k tag : ℕ) (ks : List ℕ) (first pending : ℕ) where
  at : (o : ℕ) → o < node_words k → get_or (node_image k tag ks first pending) o 0 ≡ image_word k tag ks first pending o
  at o l = get_or-listed₀ (image_word k tag ks first pending) (node_words k) o 0 l

  pub image_tag : get_or (node_image k tag ks first pending) 0 0 ≡ tag
  unfolding pick
  image_tag = at 0 (omega arith) ∙ refl

  pub image_key : (i : ℕ) → 1 ≤ i → i < k → get_or (node_image k tag ks first pending) i 0 ≡ get_or ks (i - 1) 0
  unfolding pick
  image_key i l g = at i (omega arith) ∙ rw (ne_eqb i 0 (λ e. omega arith), lt-ltb i k g) refl

  pub image_child_lem : (j : ℕ) → In k j → tag ≡ k → get_or (node_image k tag ks first pending) (child_place k j) 0 ≡ first + (j - 1)
  unfolding pick
  image_child_lem j i e =
      at (child_place k j) (omega (arith, i))
      ∙ rw (ne_eqb (child_place k j) 0 (λ z. omega (arith, i)), le-ltb (child_place k j) k (omega arith), lt-ltb (child_place k j) (2 * k) (omega (arith, i)), eq-eqb tag k e)
      (ap (λ (m : ℕ). first + m) (let z : k + (j - 1) - k ≡ j - 1 = omega arith in z))

  pub image_pend : 1 ≤ k → get_or (node_image k tag ks first pending) (pending_place k) 0 ≡ pending
  unfolding pick
  image_pend l =
      at (pending_place k) (omega arith)
      ∙ rw (ne_eqb (pending_place k) 0 (λ z. omega arith), le-ltb (pending_place k) k (omega arith), le-ltb (pending_place k) (2 * k) (omega arith)) refl

pub array_at : (ks : List ℕ) (i : ℕ) → i < key_room → get_or (key_array ks) i 0 ≡ get_or ks i 0
array_at ks i l = get_or-listed₀ (λ i. get_or ks i 0) key_room i 0 l

-- A pass of the walk, return by return and turn by turn: what it has met is what the definition of the walk says.
use Prim.Native.Nat.{ℕ, ◌+◌, ◌-◌, ◌≤◌, ◌<◌}
use mathlib.Core.Path.{◌≡◌, sym, ap, subst, ◌∙◌}
use mathlib.Core.Bool.{Bool}
use mathlib.Core.List.{List, ◌++◌}
use native.Mathlib.Omega.{arith}
use Rattle.std.specs.Prelude.{Option, Some}
use Rattle.tables.specs.Choice.{both}
use Rattle.nodes.specs.Node.{child_of}
use Rattle.tables.specs.declared.header.Header.{Header}
use Rattle.nodes.specs.declared.node.Kin.{Kin}
use Rattle.nodes.specs.declared.node.Kin.TheVariants.{Internal}
use Rattle.meter.specs.Walk.{Walk, begin, met_from}
use Rattle.meter.proofs.Walks.{after, children, met_internal, child_more, fewer_children}

-- what a pass has met, and the nodes still allowed, where the walk is known
pub left_as : (n : ℕ) (v w : Walk) → v ≡ w → n ≡ w.allowed → n ≡ v.allowed
left_as n v w e f = f ∙ ap (λ (x : Walk). x.allowed) (sym e)

module _ {P : Type 0} (met : P → List ℕ → Bool → P → Type 0) where
  pub met_as : (p q : P) (v w : Walk) → v ≡ w → met p w.keys w.sound q → met p v.keys v.sound q
  met_as p q v w e m = subst (λ (x : Walk). met p x.keys x.sound q) (sym e) m

  module _ (b : List ℕ) (h : Header) (node allowed : ℕ) where
    abbrev walked_to : ℕ → Walk
    walked_to i = children b h allowed node i (begin allowed)

    -- one more child
    pub child_met : (behind : (p q r : P) (ks ls : List ℕ) (s t : Bool) → met p ks s q → met q ls t r → met p (ks ++ ls) (both s t) r)
        → (p q r : P) (i left : ℕ) (child : Option Kin) → left ≡ (walked_to i).allowed → met p (walked_to i).keys (walked_to i).sound q
        → child ≡ child_of b h node (i + 1) → met q (met_from b h child left).keys (met_from b h child left).sound r
        → met p (walked_to (i + 1)).keys (walked_to (i + 1)).sound r
    child_met behind p q r i left child e m f n =
        let w = walked_to i in
        let x = met_from b h (child_of b h node (i + 1)) w.allowed in
        met_as p r _ (after w x) (child_more b h allowed node i (begin allowed) (omega arith))
        (behind p q r w.keys x.keys w.sound x.sound m (met_as q r x _ (sym (ap (λ (c : Option Kin). met_from b h c left) f ∙ ap (met_from b h (child_of b h node (i + 1))) e)) n))

pub child_left : (b : List ℕ) (h : Header) (node allowed i left left' : ℕ) (child : Option Kin) → left ≡ (children b h allowed node i (begin allowed)).allowed
    → child ≡ child_of b h node (i + 1) → left' ≡ (met_from b h child left).allowed → left' ≡ (children b h allowed node (i + 1) (begin allowed)).allowed
child_left b h node allowed i left left' child e f g =
    g ∙ ap (λ (c : Option Kin). (met_from b h c left).allowed) f
    ∙ ap (λ (n : ℕ). (met_from b h (child_of b h node (i + 1)) n).allowed) e
    ∙ ap (λ (w : Walk). w.allowed) (sym (child_more b h allowed node i (begin allowed) (omega arith)))

-- what ends the recursion: a node fewer, and what hangs below it
pub child_falls : (b : List ℕ) (h : Header) (node i a left t : ℕ) → left ≡ (children b h (a - 1) node i (begin (a - 1))).allowed → (a ≡ 0 → ⊥) → a ≡ t → left < t
child_falls b h node i a left t e some f = omega (arith, fewer_children b h (a - 1) node i (begin (a - 1)))

pub child_all : (b : List ℕ) (h : Header) (child : Option Kin) (kin : Kin) (node a i end : ℕ) → (a ≡ 0 → ⊥) → child ≡ Some kin → kin ≡ Internal node → i ≤ end → end ≤ i → end ≡ h.k
    → met_from b h child a ≡ children b h (a - 1) node i (begin (a - 1))
child_all b h child kin node a i end some e f p q g =
    let z : h.k ≡ i = omega arith in
    met_internal b h a some child node (e ∙ ap Some f) ∙ ap (λ (n : ℕ). children b h (a - 1) node n (begin (a - 1))) z

-- Laws of `pick`, `both`, `either`, `within`, and the rules by which a search proves a function with one or two tests.
use Prim.Native.Nat.{ℕ, ◌≤◌}
use mathlib.Core.Path.{◌≡◌, refl, sym, subst, ◌∙◌}
use mathlib.Core.Bool.{Bool, true, false}
use mathlib.Core.Logic.{◌⊎◌, inl, inr}
use lib.Dec.{T}
use borrow.Author.Tests.{lt-ltb, le-ltb, le-leb, lt-leb, eq-eqb, ne_eqb, leb-true}
use Rattle.tables.specs.Choice.{pick, both, either, within}

pub both_1 : (a b : Bool) → both a b ≡ true → a ≡ true
unfolding both
both_1 true b e = refl
both_1 false b e = e

pub both_2 : (a b : Bool) → both a b ≡ true → b ≡ true
unfolding both
both_2 true b e = e
both_2 false b e = absurd (subst (λ (t : Bool). T t) (sym e) tt)

pub both_true : (s : Bool) → both s true ≡ s
unfolding both
both_true true = refl
both_true false = refl

pub both_false : (s : Bool) → both s false ≡ false
unfolding both
both_false true = refl
both_false false = refl

pub false_both : (s : Bool) → both false s ≡ false
unfolding both
false_both s = refl

pub both_is : {s t : Bool} → s ≡ true → t ≡ true → both s t ≡ true
unfolding both
both_is {s} {t} e f = rw (e, f) refl

pub both_assoc : (r s t : Bool) → both (both r s) t ≡ both r (both s t)
unfolding both
both_assoc true s t = refl
both_assoc false s t = refl

pub either_some : (s t : Bool) → (s ≡ true) ⊎ (t ≡ true) → either s t ≡ true
unfolding pick
either_some true t e = refl
either_some false t (inl e) = absurd (subst (λ (t : Bool). T t) (sym e) tt)
either_some false t (inr e) = e

pub pick_true : {A : Type 0} (t : Bool) (a b : A) → t ≡ true → pick t a b ≡ a
unfolding pick
pick_true true a b e = refl
pick_true false a b e = absurd (subst (λ (t : Bool). T t) (sym e) tt)

pub pick_false : {A : Type 0} (t : Bool) (a b : A) → t ≡ false → pick t a b ≡ b
unfolding pick
pick_false true a b e = absurd (subst (λ (t : Bool). T t) e tt)
pick_false false a b e = refl

pub within_low : (lo x hi : ℕ) → within lo x hi ≡ true → lo ≤ x
within_low lo x hi e = leb-true lo x (both_1 _ _ e)

pub within_high : (lo x hi : ℕ) → within lo x hi ≡ true → x ≤ hi
within_high lo x hi e = leb-true x hi (both_2 _ _ e)

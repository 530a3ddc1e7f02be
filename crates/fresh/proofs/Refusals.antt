-- Making refuses by the first reason that holds, and says which.
use Prim.Native.Nat.{ℕ}
use mathlib.Core.Path.{◌≡◌, refl, ap}
use mathlib.Core.List.{List}
use native.Mathlib.Omega.{arith}
use Rattle.std.specs.Prelude.{Result, Ok, Err}
use Rattle.tables.specs.Choice.{both, First}
use Rattle.tables.specs.Layout.{over_front}
use Rattle.tables.specs.Refusal.{number_of}
use Rattle.tables.specs.declared.numbers.Refusal.{Refusal}
use Rattle.tables.proofs.OneToOne.{answers_first}
use Rattle.fresh.specs.Fresh.{fresh_header, fresh_block, making_reasons, MakeOut, make_out, make_of}

pub one_made : (d e : Refusal) → ◌≡◌ {A = Result (Unit {0}) Refusal} (Err d) (Err e) → d ≡ e
one_made d e q = cc

pub not_done : (e : Refusal) → ◌≡◌ {A = Result (Unit {0}) Refusal} (Ok tt) (Err e) → ⊥
not_done e q = let z : ◌≡◌ {A = ℕ} 0 1 = cc in omega arith

pub make_refused : (b : List ℕ) (k p n r : ℕ) (e : Refusal) → make_of b k p n r ≡ make_out (Err e) b → First (number_of e) (making_reasons b k p n r)
unfolding both
make_refused b k p n r e =
    answers_first (λ d. make_out (Err d) b) (make_out (Ok tt) (over_front (fresh_block (fresh_header k p n r)) b)) (making_reasons b k p n r) e
    (λ d q. one_made d e (ap (λ (o : MakeOut). o.made) q)) (λ q. not_done e (ap (λ (o : MakeOut). o.made) q)) refl

-- What the steps of an operation come to.
use Rattle.std.specs.Prelude.{Result, Ok, Err}
use Rattle.tables.specs.declared.numbers.Refusal.{Refusal}
use Rattle.std.proofs.Common.{◌≡◌, ℕ, ◌+◌, ◌-◌, ◌<◌, ◌≤◌, List, sym, ap, ◌∙◌, arith}
use Rattle.tables.proofs.Lists.{left_over}
use Rattle.process.specs.declared.Process.{Process}
use Rattle.process.specs.declared.Answer.{Answer}
use Rattle.process.specs.declared.Progress.{Progress}
use Rattle.process.specs.declared.Progress.TheVariants as steps
use Rattle.index.specs.Calls.{StepOut, step_out, step_call}
use Rattle.speed.specs.Steps.{StepsOut, steps_out, steps_then, steps_from}

-- a step, where some are left
module _ {out : StepsOut} (n i : ℕ) (b b' : List ℕ) (row row' : List Process) (r : Result Progress Refusal)
    (some : i < n) (e : step_out r b' row' ≡ step_call b row 1) (so : steps_from (n - i) b row ≡ out) where
  stepped : steps_then (steps_from (n - (i + 1))) r b' row' ≡ out
  unfolding steps_from
  stepped = ap (λ (o : StepOut). steps_then (steps_from (n - (i + 1))) o.answer o.block o.row) e ∙ (sym (ap (λ (m : ℕ). steps_from m b row) (left_over n i some)) ∙ so)

  pub goes_on : (p : Progress) → r ≡ Ok p → p ≡ steps.GoesOn → steps_from (n - (i + 1)) b' row' ≡ out
  goes_on p is on = rw (is, on) at stepped

  pub ended : (p : Progress) (a : Answer) (k : ℕ) → r ≡ Ok p → p ≡ steps.Ended a k → steps_out r b' ≡ out
  ended p a k is on = rw (is, on) (rw (is, on) at stepped)

  pub refused : (e : Refusal) → r ≡ Err e → steps_out r b' ≡ out
  refused e is = rw is (rw is at stepped)

-- no step is left
pub none_left : {out : StepsOut} (n i : ℕ) (b : List ℕ) (row : List Process) → n ≤ i → steps_from (n - i) b row ≡ out → steps_out (Ok steps.GoesOn) b ≡ out
unfolding steps_from
none_left n i b row l so = sym (ap (λ (m : ℕ). steps_from m b row) (let none : n - i ≡ 0 = omega (arith, l) in none)) ∙ so

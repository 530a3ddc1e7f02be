-- Steps of process 1, one after the other, until an answer or a refusal: at most so many.
use Rattle.tables.specs.declared.numbers.Refusal.{Refusal}
use Rattle.std.specs.Prelude.{ℕ, zero, suc, List, Result, Ok, Err}
use Rattle.process.specs.declared.Process.{Process}
use Rattle.process.specs.declared.Progress.{Progress}
use Rattle.process.specs.declared.Progress.TheVariants as steps
use Rattle.index.specs.Calls.{step_call}

-- the last answer, and the block then
pub record StepsOut : Type 0 where
  pub answer : Result Progress Refusal
  pub block : List ℕ

abbrev pub steps_out : Result Progress Refusal → List ℕ → StepsOut
steps_out a b = record { answer = a; block = b }

-- what one step leaves: handed on where it goes on, else the end
abbrev pub steps_then : (List ℕ → List Process → StepsOut) → Result Progress Refusal → List ℕ → List Process → StepsOut
steps_then more (Ok steps.GoesOn) b row = more b row
steps_then more (Ok (steps.Ended a k)) b row = steps_out (Ok (steps.Ended a k)) b
steps_then more (Err e) b row = steps_out (Err e) b

unfoldable pub steps_from : ℕ → List ℕ → List Process → StepsOut
steps_from zero b row = steps_out (Ok steps.GoesOn) b
steps_from (suc n) b row = let done = step_call b row 1 in steps_then (steps_from n) done.answer done.block done.row

-- What each call answers, in document 01's numbers.
use Rattle.std.specs.Prelude.{ℕ, Result, Ok, Err}
use Rattle.tables.specs.declared.numbers.Refusal.{Refusal}
use Rattle.tables.specs.Refusal.{number_of}
use Rattle.process.specs.Answer.{answer_number}
use Rattle.process.specs.declared.Progress.{Progress}
use Rattle.process.specs.declared.Progress.TheVariants as steps

-- done; "a step says that it goes on"; "Answers: 0 no, 1 yes, 2 full", with the steps; "A refusal returns its number"
pub data Says : Type 0 where
  done : Says
  on : Says
  answers : ℕ → ℕ → Says
  refuses : ℕ → Says

abbrev pub made_says : Result (Unit {0}) Refusal → Says
made_says (Ok tt) = done
made_says (Err e) = refuses (number_of e)

abbrev pub start_says : Result (Unit {0}) Refusal → Says
start_says (Ok tt) = done
start_says (Err e) = refuses (number_of e)

abbrev pub step_says : Result Progress Refusal → Says
step_says (Ok steps.GoesOn) = on
step_says (Ok (steps.Ended a n)) = answers (answer_number a) n
step_says (Err e) = refuses (number_of e)

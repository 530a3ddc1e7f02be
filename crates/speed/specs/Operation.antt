-- One operation of process 1, from its start to its answer, in a row of one idle record.
use Rattle.tables.specs.declared.numbers.Refusal.{Refusal}
use Rattle.std.specs.Prelude.{ℕ, List, replicate, Option, Some, None, Result, Ok, Err}
use Rattle.process.specs.Answer.{answer_number}
use Rattle.process.specs.Process.{idle}
use Rattle.process.specs.declared.Progress.{Progress}
use Rattle.process.specs.declared.Progress.TheVariants as steps
use Rattle.index.specs.Calls.{start_call}
use Rattle.speed.specs.Steps.{StepsOut, steps_from}
use Rattle.speed.specs.declared.work.Ending.{Ending}

-- the answer with its steps, where there is one
abbrev pub ending_of : Result Progress Refusal → Option Ending
ending_of (Ok steps.GoesOn) = None
ending_of (Ok (steps.Ended a n)) = Some (record { answer = a; steps = n })
ending_of (Err e) = None

-- the paper's number of the answer; 3 where there is none
abbrev pub number_of : Option Ending → ℕ
number_of None = 3
number_of (Some e) = answer_number e.answer

abbrev pub steps_of : Option Ending → ℕ
steps_of None = 0
steps_of (Some e) = e.steps

-- what an operation comes to, and the block then
pub record OperateOut : Type 0 where
  pub ending : Option Ending
  pub block : List ℕ

abbrev pub operate_out : Option Ending → List ℕ → OperateOut
operate_out e b = record { ending = e; block = b }

abbrev pub operate_as : StepsOut → OperateOut
operate_as o = operate_out (ending_of o.answer) o.block

unfoldable pub operate_of : List ℕ → ℕ → ℕ → OperateOut
operate_of b operation key = operate_as (steps_from 1000000 b (start_call b (replicate 1 idle) 1 operation key).row)

-- Document 01, "What a call returns": a start and a step over a lent block and a lent row of process records. Each says its answer, the whole block and the whole row afterwards, on every input.
use Rattle.std.specs.Prelude.{ℕ, ◌-◌, List, length, get_or, set, Result, Ok, Err}
use Rattle.tables.specs.declared.numbers.Refusal.{Refusal}
use Rattle.tables.specs.Choice.{decide}
use Rattle.tables.specs.Refusal.{refusal}
use Rattle.tables.specs.Header.{header_of}
use Rattle.process.specs.Process.{idle, started_as}
use Rattle.process.specs.declared.Process.{Process}
use Rattle.process.specs.declared.Progress.{Progress}
use Rattle.help.specs.Touch.{Row}
use Rattle.points.specs.Rows.{row_of}
use Rattle.points.specs.Step.{step_reasons, start_reasons}

-- "numbered from 1": the record of process n stands at n − 1
abbrev pub record_of : List Process → ℕ → Process
record_of row n = get_or row (n - 1) idle

abbrev pub with_record : List Process → ℕ → Process → List Process
with_record row n q = set row (n - 1) q

-- what a start answers, and the row then; the block is lent to be read
pub record StartOut : Type 0 where
  pub answer : Result (Unit {0}) Refusal
  pub row : List Process

abbrev pub start_out : Result (Unit {0}) Refusal → List Process → StartOut
start_out a row = record { answer = a; row = row }

-- a start of process n
unfoldable pub start_call : List ℕ → List Process → ℕ → ℕ → ℕ → StartOut
start_call b row n operation key =
    decide (start_reasons b (length row) n (record_of row n) operation key)
    (λ r. start_out (Err (refusal r)) row)
    (start_out (Ok tt) (with_record row n (started_as operation key)))

-- what a step answers, and the block and the row then
pub record StepOut : Type 0 where
  pub answer : Result Progress Refusal
  pub block : List ℕ
  pub row : List Process

abbrev pub step_out : Result Progress Refusal → List ℕ → List Process → StepOut
step_out a b row = record { answer = a; block = b; row = row }

-- "Each accepted step does the one row of its point": what it leaves in the block, and in the record of process n
abbrev pub step_by : List Process → ℕ → Row → StepOut
step_by row n done = step_out (Ok done.stepped.progress) done.block (with_record row n done.stepped.process)

-- a step of process n
unfoldable pub step_call : List ℕ → List Process → ℕ → StepOut
step_call b row n =
    decide (step_reasons b (length row) n (record_of row n))
    (λ r. step_out (Err (refusal r)) b row)
    (step_by row n (row_of b (header_of b) n (record_of row n)))

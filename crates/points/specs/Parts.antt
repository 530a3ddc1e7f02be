-- What the private parts of a step and of a start promise: a call seen from the middle of its work.
use Rattle.std.specs.Prelude.{ℕ, ◌<◌, ◌≤◌, List, ◌++◌, Result, Ok}
use Rattle.tables.specs.Choice.{decide}
use Rattle.nodes.specs.Pending.{word_of}
use Rattle.tables.specs.declared.header.Header.{Header}
use Rattle.process.specs.Process.{started_as}
use Rattle.process.specs.declared.Process.{Process}
use Rattle.help.specs.Touch.{Out}
use Rattle.points.specs.Step.{row_reasons, step_rest, step_refused, step_done, start_rest, start_refused}
use Rattle.tables.specs.declared.numbers.Refusal.{Refusal}

-- what the fields of a sound process record, and from 6 on the record helped, leave to the arithmetic of its row
pub record Ready (q : Process) : Type 0 where
  pub index_small : q.index ≤ 8
  pub pseen_small : word_of q.pseen < 4294967296
  pub helped_small : 6 ≤ q.point → q.helped ≤ 65535

-- a step once the header is read
abbrev pub step_good : List ℕ → Header → ℕ → ℕ → Process → Out
step_good b h rows n q = decide (row_reasons h rows n ++ step_rest b h n q) (step_refused b) (step_done b h n q)

-- a start once the header is read, and once the process is known
abbrev pub start_known : Process → ℕ → ℕ → Result Process Refusal
start_known q operation key = decide (start_rest q operation key) start_refused (Ok (started_as operation key))

abbrev pub start_good : Header → ℕ → ℕ → Process → ℕ → ℕ → Result Process Refusal
start_good h rows n q operation key =
    decide (row_reasons h rows n ++ start_rest q operation key) start_refused (Ok (started_as operation key))

-- Document 01, "Bench program, given whole": what one line does to the block, the row and the list of keys, and what it says.
use Rattle.std.specs.Prelude.{ℕ, zero, suc, Bool, true, false, List, leb, replicate, Result, Ok, Err, Option, Some, None}
use Rattle.tables.specs.Choice.{pick, both}
use Rattle.tables.specs.Header.{header_of}
use Rattle.tables.specs.Refusal.{refusal}
use Rattle.tables.specs.declared.numbers.Refusal.{Refusal}
use Rattle.process.specs.Process.{idle}
use Rattle.process.specs.Answer.{answer_number}
use Rattle.process.specs.declared.Process.{Process}
use Rattle.process.specs.declared.Progress.{Progress}
use Rattle.process.specs.declared.Progress.TheVariants as step
use Rattle.make.specs.Make.{make_call}
use Rattle.index.specs.Calls.{record_of, start_call, step_call, StepOut, step_out}
use Rattle.walk.specs.Calls.{list_of}
use Rattle.script.specs.declared.lines.Line.{Line}
use Rattle.script.specs.declared.lines.Line.TheVariants as line
use Rattle.tables.specs.declared.numbers.Making.{Making}
use Rattle.print.specs.declared.lines.StartLine.{StartLine}
use Rattle.print.specs.declared.lines.StepLine.{StepLine}
use Rattle.session.specs.declared.line.Stage.{Stage}
use Rattle.session.specs.declared.line.Stage.TheVariants as stage
use Rattle.session.specs.declared.line.Said.{Said}
use Rattle.session.specs.declared.line.Said.TheVariants as said
use Rattle.session.specs.declared.line.Session.{Session}
use Rattle.session.specs.declared.line.Turn.{Turn}

-- "at most 8 processes, 512 nodes, 512 records, so its block stays below 64 KiB; more is refused 1"
abbrev pub bench_processes : ℕ
bench_processes = 8

abbrev pub bench_nodes : ℕ
bench_nodes = 512

abbrev pub bench_records : ℕ
bench_records = 512

abbrev pub within_bench : Making → Bool
within_bench m = both (leb m.processes bench_processes) (both (leb m.nodes bench_nodes) (leb m.records bench_records))

-- the session before its first line: a row of 32 records, the most that there can be
abbrev pub begun : Session
begun = record { stage = stage.First; row = replicate 32 idle }

-- what is said of a line, and the session behind it
abbrev pub turn_of : Said → Stage → List Process → Turn
turn_of s at row = record { said = s; session = record { stage = at; row = row } }

-- the same with the block
pub record Did : Type 0 where
  pub turn : Turn
  pub block : List ℕ

abbrev pub did : Turn → List ℕ → Did
did t b = record { turn = t; block = b }

-- the same with the block and the list of keys
pub record Done : Type 0 where
  pub turn : Turn
  pub block : List ℕ
  pub list : List ℕ

abbrev pub done : Turn → List ℕ → List ℕ → Done
done t b list = record { turn = t; block = b; list = list }

-- "A refusal prints `refused=N`; in the first line it ends the run."
abbrev pub ended_by : ℕ → List Process → Turn
ended_by n row = turn_of (said.Refused (refusal n)) stage.Ended row

abbrev pub refused_by : ℕ → List Process → Turn
refused_by n row = turn_of (said.Refused (refusal n)) stage.Made row

abbrev pub made_turn : Result (Unit {0}) Refusal → List Process → Turn
made_turn (Ok tt) row = turn_of said.Nothing stage.Made row
made_turn (Err e) row = turn_of (said.Refused e) stage.Ended row

abbrev pub making_done : List ℕ → List Process → Making → Did
making_done b row m =
    let o = make_call b row m.k m.processes m.nodes m.records in
    pick (within_bench m) (did (made_turn o.answer o.row) o.block) (did (ended_by 1 row) b)

-- the first line makes the tables; any other first line is not in its form
unfoldable pub first_done : List ℕ → List Process → Option Line → Did
first_done b row (Some (line.Making m)) = making_done b row m
first_done b row (Some (line.Start s)) = did (ended_by 11 row) b
first_done b row (Some (line.Steps s)) = did (ended_by 11 row) b
first_done b row (Some line.List) = did (ended_by 11 row) b
first_done b row None = did (ended_by 11 row) b

-- "An accepted start .. print[s] nothing."
abbrev pub start_turn : Result (Unit {0}) Refusal → List Process → Turn
start_turn (Ok tt) row = turn_of said.Nothing stage.Made row
start_turn (Err e) row = turn_of (said.Refused e) stage.Made row

abbrev pub start_done : List ℕ → List Process → StartLine → Turn
start_done b row s =
    let o = start_call b row s.process s.op s.key in
    start_turn o.answer o.row

-- "`times` ends early at an answer or a refusal."
abbrev pub goes_on : Result Progress Refusal → Bool
goes_on (Ok step.GoesOn) = true
goes_on (Ok (step.Ended a n)) = false
goes_on (Err e) = false

unfoldable pub steps_of : ℕ → List ℕ → List Process → ℕ → StepOut
steps_of zero b row n = step_out (Ok step.GoesOn) b row
steps_of (suc times) b row n =
    let o = step_call b row n in
    pick (goes_on o.answer) (steps_of times o.block o.row n) o

-- the answer of process n, which was busy with what its record q says
abbrev pub steps_said : ℕ → Process → Result Progress Refusal → Said
steps_said n q (Ok step.GoesOn) = said.Nothing
steps_said n q (Ok (step.Ended a steps)) =
    said.Answered (record { process = n; op = q.operation; key = q.key; answer = answer_number a; steps = steps })
steps_said n q (Err e) = said.Refused e

abbrev pub steps_done : List ℕ → List Process → StepLine → Did
steps_done b row s =
    let o = steps_of s.times b row s.process in
    did (turn_of (steps_said s.process (record_of row s.process) o.answer) stage.Made o.row) o.block

-- "The count line gives keys in the set, nodes used, records used; keys follow ascending": the keys stand in the list.
abbrev pub list_said : List ℕ → Result ℕ Refusal → Said
list_said b (Ok n) = said.Listed (record { count = n; nodes = (header_of b).nodesused; records = (header_of b).recordsused })
list_said b (Err e) = said.Refused e

-- the same with the list
pub record ListSaid : Type 0 where
  pub said : Said
  pub list : List ℕ

abbrev pub list_done : List ℕ → List ℕ → ListSaid
list_done b list =
    let o = list_of b list in
    record { said = list_said b o.listed; list = o.list }

-- the lines after the first; a making line among them is not in its form
unfoldable pub later_done : List ℕ → List ℕ → List Process → Option Line → Done
later_done b list row (Some (line.Making m)) = done (refused_by 11 row) b list
later_done b list row (Some (line.Start s)) = done (start_done b row s) b list
later_done b list row (Some (line.Steps s)) = done (steps_done b row s).turn (steps_done b row s).block list
later_done b list row (Some line.List) = done (turn_of (list_done b list).said stage.Made row) b (list_done b list).list
later_done b list row None = done (refused_by 11 row) b list

-- what a line does; behind the end of a run it does nothing
abbrev pub line_done : List ℕ → List ℕ → Stage → List Process → Option Line → Done
line_done b list stage.First row l = done (first_done b row l).turn (first_done b row l).block list
line_done b list stage.Made row l = later_done b list row l
line_done b list stage.Ended row l = done (turn_of said.Nothing stage.Ended row) b list

-- the run has ended
abbrev pub is_over : Stage → Bool
is_over stage.First = false
is_over stage.Made = false
is_over stage.Ended = true

-- the input has ended, and the run with it
abbrev pub finished : Session → Session
finished s = record { stage = stage.Ended; row = s.row }

-- Events: starts and steps of the processes of a row over one block, and the state at each moment of a list of them.
use Rattle.std.specs.Prelude.{ℕ, zero, suc, ◌+◌, ◌≤◌, Bool, false, List, [], ◌∷◌, ltb, eqb, get_or, Result}
use Rattle.std.specs.Result.{is_ok}
use Rattle.tables.specs.Choice.{pick, both}
use Rattle.tables.specs.Numbers.{infinity}
use Rattle.tables.specs.Header.{header_of}
use Rattle.tables.specs.Layout.{over_front}
use Rattle.fresh.specs.Fresh.{fresh_header, fresh_block, fresh_row}
use Rattle.tables.specs.declared.header.Header.{Header}
use Rattle.tables.specs.declared.numbers.Refusal.{Refusal}
use Rattle.process.specs.declared.Process.{Process}
use Rattle.process.specs.declared.Progress.{Progress}
use Rattle.process.specs.Process.{idle}
use Rattle.process.specs.Answer.{most_steps}
use Rattle.index.specs.Calls.{record_of, StartOut, start_call, StepOut, step_call}

-- start (process, operation, key); step (process)
pub data Event : Type 0 where
  start : ℕ → ℕ → ℕ → Event
  step : ℕ → Event

-- the block, and the row of process records
pub record State : Type 0 where
  pub block : List ℕ
  pub row : List Process

-- the record of a process
abbrev pub taken : State → ℕ → Process
taken s n = record_of s.row n

-- the calls, on the block and the row of a state
abbrev pub start_in : State → ℕ → ℕ → ℕ → StartOut
start_in s n operation key = start_call s.block s.row n operation key

abbrev pub step_in : State → ℕ → StepOut
step_in s n = step_call s.block s.row n

abbrev pub after : State → Event → State
after s (start n operation key) = record { block = s.block; row = (start_in s n operation key).row }
after s (step n) = record { block = (step_in s n).block; row = (step_in s n).row }

-- event m of a list, from 0. (No process has the number 0: a step of it is refused.)
abbrev pub event_at : List Event → ℕ → Event
event_at es m = get_or es m (step 0)

-- the state after the first m events of a list
unfoldable pub state_at : State → List Event → ℕ → State
state_at s es zero = s
state_at s es (suc m) = after (state_at s es m) (event_at es m)

abbrev pub block_at : State → List Event → ℕ → List ℕ
block_at s es m = (state_at s es m).block

abbrev pub header_at : State → List Event → ℕ → Header
header_at s es m = header_of (block_at s es m)

-- a key given is a word of 32 bits
abbrev pub Proper : Event → Type 0
Proper (start n operation key) = key ≤ infinity
Proper (step n) = 0 ≤ n

-- all of a list are so
pub data AllProper : List Event → Type 0 where
  empty : AllProper []
  also : {e : Event} {es : List Event} → Proper e → AllProper es → AllProper (e ∷ es)

-- the event is an accepted start of process n
abbrev pub is_accepted : Result (Unit {0}) Refusal → Bool
is_accepted a = is_ok a

abbrev pub starts : State → Event → ℕ → Bool
starts s (start m operation key) n = both (eqb m n) (is_accepted (start_in s m operation key).answer)
starts s (step m) n = false

-- the moment after the last accepted start of process n
unfoldable pub since_at : State → List Event → ℕ → ℕ → ℕ
since_at s es n zero = 0
since_at s es n (suc m) = pick (starts (state_at s es m) (event_at es m) n) (suc m) (since_at s es n m)

-- the event is an accepted step of process n: it goes on, or gives an answer
abbrev pub is_answered : Result Progress Refusal → Bool
is_answered a = is_ok a

abbrev pub stepped_by : State → Event → ℕ → Bool
stepped_by s (start m operation key) n = false
stepped_by s (step m) n = both (eqb m n) (is_answered (step_in s m).answer)

-- the accepted steps of process n since its last accepted start
unfoldable pub steps_at : State → List Event → ℕ → ℕ → ℕ
steps_at s es n zero = 0
steps_at s es n (suc m) =
    pick (starts (state_at s es m) (event_at es m) n) 0
    (pick (stepped_by (state_at s es m) (event_at es m) n) (steps_at s es n m + 1) (steps_at s es n m))

-- "which stays at 4,294,967,295 once there"
abbrev pub capped : ℕ → ℕ
capped x = pick (ltb x most_steps) x most_steps

-- what making leaves: the fresh tree over the front of the block, all process records idle over the front of the row
abbrev pub fresh_state : ℕ → ℕ → ℕ → ℕ → List ℕ → List Process → State
fresh_state k processes nodes records b row = record {
  block = over_front (fresh_block (fresh_header k processes nodes records)) b;
  row = over_front (fresh_row idle (fresh_header k processes nodes records)) row;
}

-- Operations: an accepted start, the records drawn for it, and its answer; why a call is refused.
use Rattle.std.specs.Prelude.{ℕ, suc, ◌+◌, ◌≡◌, ◌≢◌, List, Ok}
use Rattle.tables.specs.Numbers.{infinity}
use Rattle.tables.specs.Header.{header_of}
use Rattle.process.specs.declared.Answer.{Answer}
use Rattle.process.specs.declared.Progress.TheVariants.{Ended}
use Rattle.history.specs.View.{In}
use Rattle.link.specs.Events.{Event, start, step, State, taken, start_in, step_in, event_at, state_at, header_at, since_at}

-- event i is an accepted start of process n, of an operation and a key: it stands for the operation
pub record Started (s : State) (es : List Event) (i n operation key : ℕ) : Type 0 where
  pub event : event_at es i ≡ start n operation key
  pub accepted : (start_in (state_at s es i) n operation key).answer ≡ Ok tt

-- at moment m process n is busy, and event i was its last accepted start
pub record BusyWith (s : State) (es : List Event) (m n i : ℕ) : Type 0 where
  pub last : since_at s es n m ≡ suc i
  pub busy : (taken (state_at s es m) n).operation ≢ 0

-- event m is a step of process n that draws record r
pub record Draws (s : State) (es : List Event) (m n r : ℕ) : Type 0 where
  pub event : event_at es m ≡ step n
  pub next : (header_at s es m).recordsused + 1 ≡ r
  pub counted : (header_at s es (suc m)).recordsused ≡ r

-- the operation of a record: the accepted start that its process was busy with when it was drawn
pub record OperationOf (s : State) (es : List Event) (r i : ℕ) : Type 0 where
  pub when : ℕ
  pub process : ℕ
  pub draws : Draws s es when process r
  pub busy : BusyWith s es when process i

-- event m is a step of process n that answers
pub record Answered (s : State) (es : List Event) (m n : ℕ) (a : Answer) (steps : ℕ) : Type 0 where
  pub event : event_at es m ≡ step n
  pub answer : (step_in (state_at s es m) n).answer ≡ Ok (Ended a steps)

-- why a step of process n is refused r: "no such process", "step on an idle process"
pub data NoStep (s : State) (n r : ℕ) : Type 0 where
  step_of_none : r ≡ 4 → ¬ In (header_of s.block).processes n → NoStep s n r
  step_of_idle : r ≡ 8 → In (header_of s.block).processes n → (taken s n).operation ≡ 0 → NoStep s n r

-- why a start is: no such process, "unknown operation", infinity given, a busy process
pub data NoStart (s : State) (n operation key r : ℕ) : Type 0 where
  start_of_none : r ≡ 4 → ¬ In (header_of s.block).processes n → NoStart s n operation key r
  start_of_nothing : r ≡ 5 → ¬ In 3 operation → NoStart s n operation key r
  start_of_infinity : r ≡ 6 → key ≡ infinity → NoStart s n operation key r
  start_of_busy : r ≡ 7 → (taken s n).operation ≢ 0 → NoStart s n operation key r

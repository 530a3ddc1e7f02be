-- What a driver may conclude from a clear range or an empty listing: every number put in has been taken out again.
use Rattle.std.specs.Prelude.{ℕ, ◌≤◌, ◌<◌, List}
use Rattle.process.specs.declared.Answer.TheVariants.{Yes}
use Rattle.link.specs.Events.{Event, State}
use Rattle.link.specs.Operations.{Started, BusyWith, Answered}
use Rattle.claim.specs.Claim.{SwapOf}
use Rattle.claim.specs.Kept.{Deleted}

-- an insert of x, started by event i, is answered yes before moment m
pub record PutIn (s : State) (es : List Event) (m i x : ℕ) : Type 0 where
  pub n : ℕ
  pub answer : ℕ
  pub count : ℕ
  pub started : Started s es i n 2 x
  pub busy : BusyWith s es answer n i
  pub answered : Answered s es answer n Yes count
  pub before : answer < m

-- its swap, and the swap of a delete of x after it and before moment m
pub record TakenOut (s : State) (es : List Event) (m i x : ℕ) : Type 0 where
  pub when : ℕ
  pub swap : SwapOf s es when i
  pub later : ℕ
  pub deleted : Deleted s es later x
  pub after : when < later
  pub before : later < m

-- range said clear, or the listing was empty: of all keys from low to high
abbrev pub Flushed : State → List Event → ℕ → ℕ → ℕ → Type 0
Flushed s es m low high = (i x : ℕ) → low ≤ x → x ≤ high → PutIn s es m i x → TakenOut s es m i x

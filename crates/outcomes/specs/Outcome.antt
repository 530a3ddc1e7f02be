-- "that this leaves one possible outcome is proved" (document 01, "How much each statement must say"): of a contract as the kit makes it of a function's clauses in the source.
use Rattle.std.specs.Prelude.{◌≡◌}
use seplogic.Ra.Ura.{Ura}
use base.Logic.{SProp}
use prog.Memory.{Memory}
use prog.Routine.{Routine}
use types.Logic.{Logic}
use contract.Lifetimes.{Lfts}
use contract.Monad.{Fun}
use denote.Triple.Entry.{Args, Res}
use denote.Triple.Clauses.{Ended, Lasts, at_exit, Clauses}

-- all that a contract is stated over: every model of the logic
pub record Model : Type 2 where
  pub M : Type 1
  pub 𝓤 : Ura M
  pub 𝓛 : Logic 𝓤
  pub mem : Memory → SProp 𝓤
  pub run : Routine → Fun 𝓤

module _ (T : Ended) (c : (M : Type 1) (𝓤 : Ura M) (𝓛 : Logic 𝓤) → (Memory → SProp 𝓤) → (Routine → Fun 𝓤) → Clauses 𝓤 T) where
  -- the outcome of a call with the arguments a: its result, and the last value of all that it was lent to write, slices or a pass (nothing else that it is handed can change)
  abbrev pub Outcome : (κs : Lfts T.signature.lifetimes) → Args T.signature κs → Type 0
  Outcome κs a = Res T.signature κs × Lasts T κs a

  -- the outcome o meets the promise, in some state of the logic
  abbrev pub Promised : (w : Model) (κs : Lfts T.signature.lifetimes) (a : Args T.signature κs) → Outcome κs a → Type 1
  Promised w κs a o =
      let d = c w.M w.𝓤 w.𝓛 w.mem w.run κs a in
      (g : d.ghost) × (m : w.M) × (d.ensures g o.0 (at_exit T κs a o.1)).holds m

  -- two outcomes that both meet the promise for the same arguments are seen alike.
  abbrev pub OneAs : (X : Type 0) → ((κs : Lfts T.signature.lifetimes) (a : Args T.signature κs) → Outcome κs a → X) → Type 2
  OneAs X seen =
      (w : Model) (κs : Lfts T.signature.lifetimes) (a : Args T.signature κs) (o o' : Outcome κs a) → Promised w κs a o → Promised w κs a o' → seen κs a o ≡ seen κs a o'

  -- two outcomes that both meet the promise for the same arguments are equal
  abbrev pub OneOutcome : Type 2
  OneOutcome = (w : Model) (κs : Lfts T.signature.lifetimes) (a : Args T.signature κs) (o o' : Outcome κs a) → Promised w κs a o → Promised w κs a o' → o ≡ o'

-- The claim holds of every list from a settled state, and a moment at which all are idle is one: the list may be taken up there again, with the set that it had.
use Prim.Native.Nat.{ℕ}
use mathlib.Core.Path.{◌≡◌}
use mathlib.Core.Logic.{◌↔◌}
use mathlib.Core.List.{List}
use Rattle.history.specs.View.{In}
use Rattle.link.specs.Events.{Event, AllProper, State, taken, state_at, header_at}
use Rattle.link.specs.Sets.{InSet}
use Rattle.link.proofs.Beginning.{Settled}
use Rattle.link.proofs.Clauses.{Reached}
use Rattle.link.proofs.Origins.{reached_settled}
use Rattle.link.proofs.Owners.{settled_at}
use Rattle.link.proofs.Prefix.{set_begins}
use Rattle.claim.proofs.Claimed.{claimed}
use Rattle.claim.proofs.Kept.{carries}
use Rattle.claim.specs.Claim.{Claim}
use Rattle.claim.specs.Kept.{Carries}

pub from_settled : {s : State} {es : List Event} → Settled s → AllProper es → Claim s es × Carries s es
from_settled r p = (claimed (reached_settled r p), carries (claimed (reached_settled r p)))

module _ {s : State} {es : List Event} (reached : Reached s es) (m : ℕ)
    (idle : (n : ℕ) → In (header_at s es m).processes n → (taken (state_at s es m) n).operation ≡ 0) where
  pub goes_on : {fs : List Event} → AllProper fs → Claim (state_at s es m) fs × Carries (state_at s es m) fs × ((x : ℕ) → InSet (state_at s es m) fs 0 x ↔ InSet s es m x)
  goes_on {fs} p = let c = from_settled (settled_at reached m idle) p in (c.0, c.1, set_begins s es fs m)

-- "no number is ever lost": a number is in the set at a moment exactly when an insert has put it in before and no delete has taken it out since.
use Rattle.std.specs.Prelude.{ℕ, suc, ◌≤◌, ◌<◌, ◌⊎◌, ◌↔◌, List}
use Rattle.link.specs.Events.{Event, State}
use Rattle.link.specs.Operations.{Started}
use Rattle.link.specs.Sets.{InSet}
use Rattle.claim.specs.Claim.{Claim, SwapOf}

-- event m is the swap of an operation on x
pub record SwapFor (s : State) (es : List Event) (operation m x : ℕ) : Type 0 where
  pub begin : ℕ
  pub n : ℕ
  pub started : Started s es begin n operation x
  pub swap : SwapOf s es m begin

abbrev pub Inserted : State → List Event → ℕ → ℕ → Type 0
Inserted s es m x = SwapFor s es 2 m x

abbrev pub Deleted : State → List Event → ℕ → ℕ → Type 0
Deleted s es m x = SwapFor s es 3 m x

-- no event from i to before m is the swap of a delete of x
abbrev pub NotDeleted : State → List Event → ℕ → ℕ → ℕ → Type 0
NotDeleted s es i m x = (t : ℕ) → i ≤ t → t < m → ¬ Deleted s es t x

-- the swap of an insert of x, before moment m, and that of no delete of x after it and before m
pub record Kept (s : State) (es : List Event) (m x : ℕ) : Type 0 where
  pub when : ℕ
  pub inserted : Inserted s es when x
  pub before : when < m
  pub since : NotDeleted s es (suc when) m x

-- in the set from the beginning on
pub record Stayed (s : State) (es : List Event) (m x : ℕ) : Type 0 where
  pub first : InSet s es 0 x
  pub since : NotDeleted s es 0 m x

-- of a list from any settled state: the set of its beginning carries over
abbrev pub Carries : State → List Event → Type 0
Carries s es = (m x : ℕ) → InSet s es m x ↔ (Stayed s es m x ⊎ Kept s es m x)

-- demand 3 after making: the set begins empty
pub record Demand (s : State) (es : List Event) : Type 0 where
  pub claim : Claim s es
  pub empty : (x : ℕ) → ¬ InSet s es 0 x
  pub kept : (m x : ℕ) → InSet s es m x ↔ Kept s es m x

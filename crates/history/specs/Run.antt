-- A run: states, each the one before it changed by one touch, or as it was.
use Rattle.std.specs.Prelude.{◌≡◌, ℕ, suc, ◌≤◌, ◌<◌}
use Rattle.history.specs.View.{In}
use Rattle.history.specs.Shared.{Shared}
use Rattle.history.specs.Change.{SameTables, Change}
use Rattle.history.specs.Effects.{swaps}

-- nothing in use is another
pub record Same (k : ℕ) (S S' : Shared) : Type 0 where
  pub tables : SameTables S S'
  pub tag_same : (n : ℕ) → In S.nodes n → S'.view.tag n ≡ S.view.tag n
  pub key_same : (n : ℕ) → In S.nodes n → S'.view.key n ≡ S.view.key n
  pub child_same : (n j : ℕ) → In S.nodes n → In k j → S'.view.child n j ≡ S.view.child n j
  pub pend_same : (n : ℕ) → In S.nodes n → S'.view.pend n ≡ S.view.pend n

module _ (k : ℕ) where
  pub data Step (S S' : Shared) : Type 0 where
    changes : Change k S S' → Step S S'
    rests : Same k S S' → Step S S'

  -- the record whose child swap a step is, else 0
  unfoldable pub step_swaps : {S S' : Shared} → Step S S' → ℕ
  step_swaps (changes c) = swaps k c
  step_swaps (rests e) = 0

  -- moments 0 to last
  pub record Run (S : ℕ → Shared) (last : ℕ) : Type 0 where
    pub step : (i : ℕ) → i < last → Step (S i) (S (suc i))

  -- the step from moment i is the child swap of r
  pub record SwapAt (S : ℕ → Shared) (r i : ℕ) : Type 0 where
    pub step : Step (S i) (S (suc i))
    pub is : step_swaps step ≡ r

-- at some moment from i to j
pub record Moment (i j : ℕ) (P : ℕ → Type 0) : Type 0 where
  pub when : ℕ
  pub from : i ≤ when
  pub to : when ≤ j
  pub holds : P when

-- The code walks twice: a pass that measures, for listing and range, and for a listing a second that fills the list. What the first keeps of a walk.
use Rattle.std.specs.Prelude.{ℕ, ◌+◌, ◌-◌, ◌≡◌, Bool, false, List, [], ◌∷◌, length, min}
use Rattle.tables.specs.Choice.{both, either, within}
use Rattle.meter.specs.Walk.{Walk}
use Rattle.meter.specs.declared.Meter.{Meter}
use Rattle.meter.specs.declared.Tally.{Tally}

-- a key lies from low to high, ends included
unfoldable pub any_within : ℕ → ℕ → List ℕ → Bool
any_within low high [] = false
any_within low high (x ∷ xs) = either (within low x high) (any_within low high xs)

-- the measure of a walk: nodes still allowed, the count of its keys, whether one of them lies from low to high, and whether it was sound
abbrev pub measure_of : ℕ → ℕ → Walk → Meter
measure_of low high w =
    record { allowed = w.allowed; count = length w.keys; found = any_within low high w.keys; sound = w.sound }

-- what the measuring pass is after it has met these keys, from what it was before: the count grows by the keys met, as far as a word holds it
pub record Measured (p : Tally) (ks : List ℕ) (s : Bool) (q : Tally) : Type 0 where
  pub low : q.low ≡ p.low
  pub high : q.high ≡ p.high
  pub count : q.count ≡ p.count + min (length ks) (4294967295 - p.count)
  pub found : q.found ≡ either p.found (any_within p.low p.high ks)
  pub sound : q.sound ≡ both p.sound s

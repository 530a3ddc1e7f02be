-- A moment depends on the events before it alone; and a list that is cut in two goes on from the state that its first part leaves.
use Prim.Native.Nat.{ℕ, zero, suc, ◌+◌, ◌<◌}
use mathlib.Core.Path.{◌≡◌, refl, ap, ◌∙◌}
use mathlib.Core.Logic.{◌↔◌}
use mathlib.Core.List.{List, ◌++◌}
use native.Mathlib.Omega.{arith}
use lib.ListN.{length, get_or-append}
use lib.Seq.{get_or-append-add}
use Rattle.link.specs.Events.{Event, step, State, event_at, state_at, since_at, steps_at}
use Rattle.link.specs.Sets.{InSet}

-- the first m events are the same
abbrev pub Agree : List Event → List Event → ℕ → Type 0
Agree es es' m = (i : ℕ) → i < m → event_at es i ≡ event_at es' i

module _ (s : State) (es es' : List Event) where
  pub state_prefix : (m : ℕ) → Agree es es' m → state_at s es m ≡ state_at s es' m
  unfolding state_at
  state_prefix zero f = refl
  state_prefix (suc m) f = rw (state_prefix m (λ i l. f i (omega arith)), f m (omega arith))

  pub since_prefix : (n m : ℕ) → Agree es es' m → since_at s es n m ≡ since_at s es' n m
  unfolding since_at
  since_prefix n zero f = refl
  since_prefix n (suc m) f =
      let g : Agree es es' m = λ i l. f i (omega arith) in
      rw (state_prefix m g, f m (omega arith), since_prefix n m g)

  pub steps_prefix : (n m : ℕ) → Agree es es' m → steps_at s es n m ≡ steps_at s es' n m
  unfolding steps_at
  steps_prefix n zero f = refl
  steps_prefix n (suc m) f =
      let g : Agree es es' m = λ i l. f i (omega arith) in
      rw (state_prefix m g, f m (omega arith), steps_prefix n m g)

-- a list from the state at a moment begins with the set of that moment
pub set_begins : (s : State) (es fs : List Event) (m x : ℕ) → InSet (state_at s es m) fs 0 x ↔ InSet s es m x
unfolding state_at
set_begins s es fs m x = (λ a. a, λ a. a)

-- es ++ fs: its first events are those of es, then come those of fs
module _ (es fs : List Event) where
  pub event_first : (m : ℕ) → m < length es → event_at (es ++ fs) m ≡ event_at es m
  event_first m l = get_or-append es fs (step 0) m l

  pub event_then : (m : ℕ) → event_at (es ++ fs) (length es + m) ≡ event_at fs m
  event_then m = get_or-append-add es fs m (step 0)

  pub state_first : (s : State) → state_at s (es ++ fs) (length es) ≡ state_at s es (length es)
  state_first s = state_prefix s (es ++ fs) es (length es) event_first

  pub state_then : (s : State) (m : ℕ) → state_at s (es ++ fs) (length es + m) ≡ state_at (state_at s es (length es)) fs m
  unfolding state_at
  state_then s zero = let none : length es + 0 ≡ length es = omega arith in ap (state_at s (es ++ fs)) none ∙ state_first s
  state_then s (suc m) =
      let up : length es + suc m ≡ suc (length es + m) = omega arith in
      ap (state_at s (es ++ fs)) up ∙ rw (state_then s m, event_then m)

-- The steps of a line, one more at a time.
use Prim.Native.Nat.{ℕ, zero, suc, ◌+◌, ◌-◌, ◌≤◌, ◌<◌}
use mathlib.Core.Path.{◌≡◌, sym, ap, ◌∙◌}
use mathlib.Core.List.{List}
use native.Mathlib.Omega.{arith}
use Rattle.std.specs.Prelude.{Result, Ok, Err}
use Rattle.tables.specs.Choice.{pick}
use Rattle.tables.specs.declared.numbers.Refusal.{Refusal}
use Rattle.process.specs.declared.Answer.{Answer}
use Rattle.process.specs.declared.Process.{Process}
use Rattle.process.specs.declared.Progress.{Progress}
use Rattle.process.specs.declared.Progress.TheVariants as step
use Rattle.index.specs.Calls.{StepOut, step_out, step_call}
use Rattle.session.specs.Line.{steps_of}

module _ (w : StepOut) (b b' : List ℕ) (row row' : List Process) (n left : ℕ) (a : Result Progress Refusal) (inv : w ≡ steps_of left b row n) (some : 0 < left)
    (f : step_out a b' row' ≡ step_call b row n) where
  pub steps_again : (rest : ℕ) → rest + 1 ≡ left → (p : Progress) → a ≡ Ok p → p ≡ step.GoesOn → w ≡ steps_of rest b' row' n
  unfolding steps_of pick
  steps_again rest k v on o = go left some inv ∙ ap (λ (l : ℕ). steps_of l b' row' n) (omega arith)
    where
      go : (m : ℕ) → 0 < m → w ≡ steps_of m b row n → w ≡ steps_of (m - 1) b' row' n
      go zero p q = absurd (omega arith)
      go (suc m) p q = q ∙ rw (← f, on, o) (ap (λ (l : ℕ). steps_of l b' row' n) (let z : m ≡ suc m - 1 = omega arith in z))

  pub steps_ended : (x : Answer) (s : ℕ) (v : Progress) → a ≡ Ok v → v ≡ step.Ended x s → step_out a b' row' ≡ w
  unfolding steps_of pick
  steps_ended x s v e o = go left some inv
    where
      go : (m : ℕ) → 0 < m → w ≡ steps_of m b row n → step_out a b' row' ≡ w
      go zero p q = absurd (omega arith)
      go (suc m) p q = sym (q ∙ rw (← f, e, o))

  pub steps_refused : (x : Refusal) → a ≡ Err x → step_out a b' row' ≡ w
  unfolding steps_of pick
  steps_refused x e = go left some inv
    where
      go : (m : ℕ) → 0 < m → w ≡ steps_of m b row n → step_out a b' row' ≡ w
      go zero p q = absurd (omega arith)
      go (suc m) p q = sym (q ∙ rw (← f, e))

pub steps_over : (w : StepOut) (b : List ℕ) (row : List Process) (n left : ℕ) → w ≡ steps_of left b row n → left ≤ 0 → step_out (Ok step.GoesOn) b row ≡ w
unfolding steps_of
steps_over w b row n left inv p = go left p inv
  where
    go : (m : ℕ) → m ≤ 0 → w ≡ steps_of m b row n → step_out (Ok step.GoesOn) b row ≡ w
    go zero p q = sym q
    go (suc m) p q = absurd (omega arith)

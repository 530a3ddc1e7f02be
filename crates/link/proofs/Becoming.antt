-- A process becomes busy by an accepted start of it alone, and idle by an answer to it alone.
use Prim.Native.Nat.{ℕ, suc, ◌≤◌}
use mathlib.Core.Path.{◌≡◌, refl, sym, ap, ◌∙◌, subst}
use mathlib.Core.Logic.{◌≢◌}
use mathlib.Core.Bool.{true}
use mathlib.Core.List.{List}
use native.Mathlib.Omega.{arith}
use native.Mathlib.Decide.{ℕ_discrete}
use lib.Dec.{eqb}
use Rattle.std.specs.Prelude.{Result, Ok, Err}
use Rattle.tables.specs.declared.numbers.Refusal.{Refusal}
use Rattle.tables.proofs.Picks.{both_2}
use Rattle.process.specs.declared.Process.{Process}
use Rattle.process.specs.declared.Answer.{Answer}
use Rattle.process.specs.declared.Stepped.{Stepped}
use Rattle.process.specs.Process.{started_as}
use Rattle.process.specs.Answer.{steps_up}
use Rattle.points.specs.Rows.{row_of}
use Rattle.index.specs.Calls.{StepOut}
use Rattle.link.specs.Events.{Event, State, taken, state_at, block_at, header_at, is_accepted, starts}
use Rattle.link.specs.Operations.{Started, Answered}
use Rattle.link.proofs.Reached.{taken_own, taken_other, state_is}
use Rattle.link.proofs.Keeps.{Kept, goes, stops, kept}
use Rattle.link.proofs.Outcomes.{Outcome, nothing, begun, moved, outcome}
use Rattle.link.proofs.Clauses.{Reached, good}

pub accepts : (a : Result (Unit {0}) Refusal) → is_accepted a ≡ true → a ≡ Ok tt
accepts (Ok tt) e = refl
accepts (Err x) e = let z : ◌≡◌ {A = ℕ} 0 1 = cc in absurd (omega arith)

module _ {s : State} {es : List Event} (reached : Reached s es) where
  abbrev W : ℕ → State
  W = state_at s es

  module _ (m n : ℕ) (low : 1 ≤ n) where
    abbrev row_block : ℕ → List ℕ
    row_block p = (row_of (block_at s es m) (header_at s es m) p (taken (W m) p)).block

    abbrev row_stepped : ℕ → Stepped
    row_stepped p = (row_of (block_at s es m) (header_at s es m) p (taken (W m) p)).stepped

    pub becomes_busy : (taken (W m) n).operation ≡ 0 → (taken (W (suc m)) n).operation ≢ 0 → (operation : ℕ) × (key : ℕ) × Started s es m n operation key
    becomes_busy i b = go (outcome (good reached m))
      where
        same : taken (W (suc m)) n ≡ taken (W m) n → ⊥
        same e = b (ap (λ (q : Process). q.operation) e ∙ i)

        go : Outcome s es m → (operation : ℕ) × (key : ℕ) × Started s es m n operation key
        go (nothing e f g) = absurd (same (ap (λ (x : State). taken x n) e))
        go (begun p operation key u d z e f f' g) = at (ℕ_discrete n p)
          where
            at : Dec (n ≡ p) → (operation : ℕ) × (key : ℕ) × Started s es m n operation key
            at (yes a) =
                subst (λ (x : ℕ). (operation : ℕ) × (key : ℕ) × Started s es m x operation key) (sym a) (
                  operation,
                  key,
                  record {
                    event = z;
                    accepted = accepts _ (both_2 (eqb p p) _ (ap (λ (x : Event). starts (W m) x p) (sym z) ∙ f));
                  },
                )
            at (no a) = absurd (same (taken_other (good reached m) p (block_at s es m) (started_as operation key) e u n low a))
        go (moved p u z y e f g g') = at (ℕ_discrete n p)
          where
            at : Dec (n ≡ p) → (operation : ℕ) × (key : ℕ) × Started s es m n operation key
            at (yes a) = absurd (omega (arith, subst (λ (x : ℕ). (taken (W m) x).operation ≡ 0) a i, y.counters.op_low))
            at (no a) = absurd (same (taken_other (good reached m) p (row_block p) (row_stepped p).process (state_is (good reached m) p u z y e) u n low a))

    pub becomes_idle : (taken (W m) n).operation ≢ 0 → (taken (W (suc m)) n).operation ≡ 0 → (a : Answer) × (count : ℕ) × Answered s es m n a count
    becomes_idle b i = go (outcome (good reached m))
      where
        same : taken (W (suc m)) n ≡ taken (W m) n → ⊥
        same e = b (ap (λ (q : Process). q.operation) (sym e) ∙ i)

        go : Outcome s es m → (a : Answer) × (count : ℕ) × Answered s es m n a count
        go (nothing e f g) = absurd (same (ap (λ (x : State). taken x n) e))
        go (begun p operation key u d z e f f' g) = at (ℕ_discrete n p)
          where
            at : Dec (n ≡ p) → (a : Answer) × (count : ℕ) × Answered s es m n a count
            at (yes a) = absurd (b (subst (λ (x : ℕ). (taken (W m) x).operation ≡ 0) (sym a) d))
            at (no a) = absurd (same (taken_other (good reached m) p (block_at s es m) (started_as operation key) e u n low a))
        go (moved p u z y e f g g') = at (ℕ_discrete n p)
          where
            own : taken (W (suc m)) p ≡ (row_stepped p).process
            own = taken_own (good reached m) p (row_block p) (row_stepped p).process (state_is (good reached m) p u z y e) u

            said : (taken (W (suc m)) p).operation ≡ 0 → Kept (header_at s es m) (taken (W m) p) (row_stepped p) → (a : Answer) × (count : ℕ) × Answered s es m p a count
            said o (goes q x st op ky ow) =
                absurd (omega (arith, y.counters.op_low, sym op ∙ sym (ap (λ (q : Process). q.operation) own ∙ ap (λ (t : Stepped). t.process.operation) x) ∙ o))
            said o (stops a x) =
                (a, steps_up (taken (W m) p).steps, record { event = z; answer = ap (λ (r : StepOut). r.answer) e ∙ ap (λ (t : Stepped). Ok t.progress) x })

            at : Dec (n ≡ p) → (a : Answer) × (count : ℕ) × Answered s es m n a count
            at (yes a) =
                subst (λ (x : ℕ). (a : Answer) × (count : ℕ) × Answered s es m x a count) (sym a)
                (said (subst (λ (x : ℕ). (taken (W (suc m)) x).operation ≡ 0) a i) (kept (block_at s es m) (header_at s es m) p (taken (W m) p) y.counters.point_low y.counters.point_high))
            at (no a) = absurd (same (taken_other (good reached m) p (row_block p) (row_stepped p).process (state_is (good reached m) p u z y e) u n low a))

-- A process that draws a record has none of its own yet: whatever it drew before has failed.
use Prim.Native.Nat.{ℕ, suc}
use mathlib.Core.Path.{◌≡◌, sym, ap, ◌∙◌, subst}
use mathlib.Core.List.{List}
use native.Mathlib.Omega.{arith}
use Rattle.tables.specs.Header.{header_of}
use Rattle.tables.specs.declared.header.Header.{Header}
use Rattle.process.specs.declared.Process.{Process}
use Rattle.process.specs.declared.Stepped.{Stepped}
use Rattle.points.specs.Rows.{row_of}
use Rattle.history.specs.View.{In}
use Rattle.link.specs.Events.{Event, start, step, State, taken, step_in, state_at, block_at, header_at, since_at}
use Rattle.link.specs.Operations.{Draws}
use Rattle.link.proofs.Calls.{step_done_in}
use Rattle.link.proofs.Moments.{Busy}
use Rattle.link.proofs.Reached.{its_turn, header_is, step_one}
use Rattle.link.proofs.Keeps.{OwnTo, same_own, new_own, no_own, Kept, goes, stops, kept}
use Rattle.link.proofs.Outcomes.{Outcome, nothing, begun, moved, outcome}
use Rattle.link.proofs.Clauses.{Reached, good}

module _ {s : State} {es : List Event} (reached : Reached s es) (m n r : ℕ) (d : Draws s es m n r) where
  abbrev W : ℕ → State
  W = state_at s es

  abbrev q : Process
  q = taken (W m) n

  -- the event writes: it is neither a refused one nor a start
  writes : block_at s es (suc m) ≡ block_at s es m → ⊥
  writes e = let x : (header_at s es (suc m)).recordsused ≡ (header_at s es m).recordsused = ap (λ (b : List ℕ). (header_of b).recordsused) e in omega (arith, d.next, d.counted)

  module _ (u : In (header_at s es m).processes n) (b : Busy (header_at s es) (block_at s es) (since_at s es n m) m n q) (e : step_in (W m) n ≡ step_done_in (W m) n) where
    abbrev stepped : Stepped
    stepped = (row_of (block_at s es m) (header_at s es m) n q).stepped

    used_is : (header_at s es (suc m)).recordsused ≡ (its_turn (good reached m) n u d.event b e).h'.recordsused
    used_is = ap (λ (x : Header). x.recordsused) (header_is (good reached m) n u d.event b e)

    own_is : stepped.process.own ≡ r
    own_is = ((its_turn (good reached m) n u d.event b e).drawn_as r (omega (arith, d.next)) (omega (arith, d.counted, used_is))).0

    own_by : Kept (header_at s es m) q stepped → q.own ≡ 0
    own_by (stops a x) = absurd (omega (arith, d.next, own_is, ap (λ (t : Stepped). t.process.own) x))
    own_by (goes q' x st op ky w) = by w
      where
        new : q'.own ≡ r
        new = sym (ap (λ (t : Stepped). t.process.own) x) ∙ own_is

        by : OwnTo (header_at s es m) q q' → q.own ≡ 0
        by (same_own z) = absurd (omega (arith, d.next, new, b.held.own_good))
        by (new_own l z) = b.counters.early_own l
        by (no_own z v) = absurd (omega (arith, d.next, new))

  pub none_before : q.own ≡ 0
  none_before = go (outcome (good reached m))
    where
      go : Outcome s es m → q.own ≡ 0
      go (nothing e f g) = absurd (writes (ap (λ (x : State). x.block) e))
      go (begun p o x u z v w f f' g) = absurd (let e : start p o x ≡ step n = sym v ∙ d.event in let y : ◌≡◌ {A = ℕ} 0 1 = cc in omega arith)
      go (moved p u z b e f g g') = by (step_one p n (sym z ∙ d.event)) u b e
        where
          by : p ≡ n → In (header_at s es m).processes p → Busy (header_at s es) (block_at s es) (since_at s es p m) m p (taken (W m) p) → step_in (W m) p ≡ step_done_in (W m) p → q.own ≡ 0
          by same = subst (λ (y : ℕ). In (header_at s es m).processes y → Busy (header_at s es) (block_at s es) (since_at s es y m) m y (taken (W m) y) → step_in (W m) y ≡ step_done_in (W m) y → q.own ≡ 0) (sym same)
              (λ v c h. own_by v c h (kept (block_at s es m) (header_at s es m) n q c.counters.point_low c.counters.point_high))

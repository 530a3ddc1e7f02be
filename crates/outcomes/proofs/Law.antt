-- The one law behind every theorem of this crate.
use mathlib.Core.Path.{◌≡◌, sym, ap, ◌∙◌}
use mathlib.Core.Logic.{∥∥₁_elim}
pub use base.Stored.{Coded, Coded-set, coded_unit, coded_ℕ, coded×, coded_list}
use contract.Lifetimes.{Lfts}
use denote.Triple.Entry.{Args, Res}
use denote.Triple.Clauses.{Ended, Lasts}
use Rattle.process.specs.declared.Process.{Process}
use Rattle.process.specs.contracts.Process as row

abbrev pub coded_process : Coded Process
coded_process = (row.the_row).coded

-- what can stand at the end of a lent slice has a code, so that equality there is a proposition
pub ruleset codes = (coded_unit, coded_ℕ, coded_process, coded×, coded_list)

module _ {G : Type 0} {M : Type 1} {E : M → Type 1} where
  -- two values that a fact holds equal to the same definition are equal, and so is the outcome that is read off them
  pub one : (T : Ended) (κs : Lfts T.signature.lifetimes) (a : Args T.signature κs) → Coded (Lasts T κs a) → {X : Type 0} {x y d : X} (off : X → Res T.signature κs × Lasts T κs a) →
      (G × (m : M) × ∥ ((_ : x ≡ d) × E m) ∥₁) → (G × (m : M) × ∥ ((_ : y ≡ d) × E m) ∥₁) → off x ≡ off y
  one T κs a ws {x = x} {y = y} off p q =
      let same = Coded-set (coded× (T.signature.result.row κs).coded ws) (off x) (off y) in
      ∥∥₁_elim p.2 same (λ e. ∥∥₁_elim q.2 same (λ f. ap off (e.0 ∙ sym f.0)))

  -- the same of a promise that states two facts
  pub one_both : {X Y O : Type 0} → Coded O → {x x' d : X} {y y' e : Y} (off : X → Y → O) →
      (G × (m : M) × ∥ ((_ : (x ≡ d) × (y ≡ e)) × E m) ∥₁) → (G × (m : M) × ∥ ((_ : (x' ≡ d) × (y' ≡ e)) × E m) ∥₁) → off x y ≡ off x' y'
  one_both c {x = x} {x' = x'} {y = y} {y' = y'} off p q =
      let same = Coded-set c (off x y) (off x' y') in
      ∥∥₁_elim p.2 same (λ s. ∥∥₁_elim q.2 same (λ t i. off ((s.0.0 ∙ sym t.0.0) i) ((s.0.1 ∙ sym t.0.1) i)))

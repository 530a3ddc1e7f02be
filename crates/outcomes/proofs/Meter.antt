-- One outcome for the public functions of `meter`: a walk measured, and the walk of any pass.
use mathlib.Core.Path.{sym, ◌∙◌}
use mathlib.Core.Logic.{∥∥₁_elim}
use mir.Syntax.{Dict}
use denote.RattleType.{RattleType}
use Rattle.outcomes.specs.Outcome.{OneOutcome}
use Rattle.outcomes.proofs.Law.{one, codes, Coded-set, coded_ℕ, coded×}
use Rattle.meter.specs.declared.Pass.{Ghosts}
use Rattle.meter.specs.contracts.Pass.TheBound.{one-law}
use Rattle.meter.specs.contracts.Pass.walk
use Rattle.meter.specs.contracts.measure_all

-- The walk of any pass: the nodes still allowed are one by the walk's definition, the pass afterwards by the law that every implementor proves.
pub walk_one : (S : RattleType) (G : Ghosts S.Denot) (d : Dict) → one-law S G d → OneOutcome (walk.ended S G d) (λ M 𝓤. walk.clauses S G d {𝓤 = 𝓤})
walk_one S G d law w κs a o o' p q =
    let same = Coded-set (coded× coded_ℕ (coded× S.coded (search codes depth 9))) o o' in
    ∥∥₁_elim p.2 same (λ s. ∥∥₁_elim q.2 same (λ t. ∥∥₁_elim s.3 same (λ l. ∥∥₁_elim t.3 same (λ m. ∥∥₁_elim s.4 same (λ e. ∥∥₁_elim t.4 same (λ f i. ((l.0 ∙ sym m.0) i, (law a.0.now o.1.0 o'.1.0 _ _ e.0 f.0 i, o.1.1))))))))

pub measure_all_one : OneOutcome measure_all.ended (λ M 𝓤. measure_all.clauses {𝓤 = 𝓤})
measure_all_one w κs a o o' = one measure_all.ended κs a (search codes depth 9) (λ x. (x, o.1))

-- One outcome for every public function of `points`: start and step by value.
use Rattle.outcomes.specs.Outcome.{OneOutcome}
use Rattle.outcomes.proofs.Law.{one, codes}
use Rattle.help.specs.Touch.{Out}
use Rattle.points.specs.contracts.start.start
use Rattle.points.specs.contracts.step.step

pub start_one : OneOutcome start.ended (λ M 𝓤. start.clauses {𝓤 = 𝓤})
start_one w κs a o o' = one start.ended κs a (search codes depth 9) (λ x. (x, o.1))

pub step_one : OneOutcome step.ended (λ M 𝓤. step.clauses {𝓤 = 𝓤})
step_one w κs a o o' = one step.ended κs a (search codes depth 9) (λ (x : Out). (x.stepped, (x.block, o.1.1)))

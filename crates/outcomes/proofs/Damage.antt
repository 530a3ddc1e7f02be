-- One outcome for every public function of `damage`: the checks of a step.
use Rattle.outcomes.specs.Outcome.{OneOutcome}
use Rattle.outcomes.proofs.Law.{one, codes}
use Rattle.damage.specs.contracts.fields.process_good
use Rattle.damage.specs.contracts.helped.helped_good

pub process_good_one : OneOutcome process_good.ended (λ M 𝓤. process_good.clauses {𝓤 = 𝓤})
process_good_one w κs a o o' = one process_good.ended κs a (search codes depth 9) (λ x. (x, o.1))

pub helped_good_one : OneOutcome helped_good.ended (λ M 𝓤. helped_good.clauses {𝓤 = 𝓤})
helped_good_one w κs a o o' = one helped_good.ended κs a (search codes depth 9) (λ x. (x, o.1))

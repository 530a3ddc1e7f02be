-- One outcome for the public function of `fill`: a walk's keys stored in a list.
use Rattle.outcomes.specs.Outcome.{OneOutcome}
use Rattle.outcomes.proofs.Law.{one, codes}
use Rattle.fill.specs.contracts.fill_all

pub fill_all_one : OneOutcome fill_all.ended (λ M 𝓤. fill_all.clauses {𝓤 = 𝓤})
fill_all_one w κs a o o' = one fill_all.ended κs a (search codes depth 9) (λ x. (o.0, (o.1.0, (o.1.1.0, (x, o.1.1.1.1)))))

-- One outcome for every public function of `mark`: points 9, 10, 11.
use Rattle.outcomes.specs.Outcome.{OneOutcome}
use Rattle.outcomes.proofs.Law.{one, codes}
use Rattle.help.specs.Touch.{Out}
use Rattle.mark.specs.contracts.point_9
use Rattle.mark.specs.contracts.point_10
use Rattle.mark.specs.contracts.point_11

pub point_9_one : OneOutcome point_9.ended (λ M 𝓤. point_9.clauses {𝓤 = 𝓤})
point_9_one w κs a o o' = one point_9.ended κs a (search codes depth 9) (λ (x : Out). (x.stepped, (x.block, o.1.1)))

pub point_10_one : OneOutcome point_10.ended (λ M 𝓤. point_10.clauses {𝓤 = 𝓤})
point_10_one w κs a o o' = one point_10.ended κs a (search codes depth 9) (λ (x : Out). (x.stepped, (x.block, o.1.1)))

pub point_11_one : OneOutcome point_11.ended (λ M 𝓤. point_11.clauses {𝓤 = 𝓤})
point_11_one w κs a o o' = one point_11.ended κs a (search codes depth 9) (λ (x : Out). (x.stepped, o.1))

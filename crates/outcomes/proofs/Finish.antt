-- One outcome for every public function of `finish`: points 6, 7, 8 and 12, 13, 14.
use Rattle.outcomes.specs.Outcome.{OneOutcome}
use Rattle.outcomes.proofs.Law.{one, codes}
use Rattle.help.specs.Touch.{Out}
use Rattle.finish.specs.contracts.point_6
use Rattle.finish.specs.contracts.point_7
use Rattle.finish.specs.contracts.point_8
use Rattle.finish.specs.contracts.point_12
use Rattle.finish.specs.contracts.point_13
use Rattle.finish.specs.contracts.point_14

pub point_6_one : OneOutcome point_6.ended (λ M 𝓤. point_6.clauses {𝓤 = 𝓤})
point_6_one w κs a o o' = one point_6.ended κs a (search codes depth 9) (λ (x : Out). (x.stepped, o.1))

pub point_7_one : OneOutcome point_7.ended (λ M 𝓤. point_7.clauses {𝓤 = 𝓤})
point_7_one w κs a o o' = one point_7.ended κs a (search codes depth 9) (λ (x : Out). (x.stepped, (x.block, o.1.1)))

pub point_8_one : OneOutcome point_8.ended (λ M 𝓤. point_8.clauses {𝓤 = 𝓤})
point_8_one w κs a o o' = one point_8.ended κs a (search codes depth 9) (λ (x : Out). (x.stepped, (x.block, o.1.1)))

pub point_12_one : OneOutcome point_12.ended (λ M 𝓤. point_12.clauses {𝓤 = 𝓤})
point_12_one w κs a o o' = one point_12.ended κs a (search codes depth 9) (λ (x : Out). (x.stepped, o.1))

pub point_13_one : OneOutcome point_13.ended (λ M 𝓤. point_13.clauses {𝓤 = 𝓤})
point_13_one w κs a o o' = one point_13.ended κs a (search codes depth 9) (λ (x : Out). (x.stepped, (x.block, o.1.1)))

pub point_14_one : OneOutcome point_14.ended (λ M 𝓤. point_14.clauses {𝓤 = 𝓤})
point_14_one w κs a o o' = one point_14.ended κs a (search codes depth 9) (λ (x : Out). (x.stepped, (x.block, o.1.1)))

-- One outcome for every public function of `flag`: points 4 and 5.
use Rattle.outcomes.specs.Outcome.{OneOutcome}
use Rattle.outcomes.proofs.Law.{one, codes}
use Rattle.help.specs.Touch.{Out}
use Rattle.flag.specs.contracts.point_4
use Rattle.flag.specs.contracts.point_5

pub point_4_one : OneOutcome point_4.ended (λ M 𝓤. point_4.clauses {𝓤 = 𝓤})
point_4_one w κs a o o' = one point_4.ended κs a (search codes depth 9) (λ (x : Out). (x.stepped, (x.block, o.1.1)))

pub point_5_one : OneOutcome point_5.ended (λ M 𝓤. point_5.clauses {𝓤 = 𝓤})
point_5_one w κs a o o' = one point_5.ended κs a (search codes depth 9) (λ (x : Out). (x.stepped, (x.block, o.1.1)))

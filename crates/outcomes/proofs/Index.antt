-- One outcome for every public function of `index`: start and step over a lent row.
use Rattle.outcomes.specs.Outcome.{OneOutcome}
use Rattle.outcomes.proofs.Law.{one, codes}
use Rattle.index.specs.Calls.{StartOut, StepOut}
use Rattle.index.specs.contracts.take
use Rattle.index.specs.contracts.put
use Rattle.index.specs.contracts.step
use Rattle.index.specs.contracts.start

pub take_one : OneOutcome take.ended (λ M 𝓤. take.clauses {𝓤 = 𝓤})
take_one w κs a o o' = one take.ended κs a (search codes depth 9) (λ x. (x, o.1))

pub put_one : OneOutcome put.ended (λ M 𝓤. put.clauses {𝓤 = 𝓤})
put_one w κs a o o' = one put.ended κs a (search codes depth 9) (λ x. (o.0, (x, o.1.1)))

pub step_one : OneOutcome step.ended (λ M 𝓤. step.clauses {𝓤 = 𝓤})
step_one w κs a o o' = one step.ended κs a (search codes depth 9) (λ (x : StepOut). (x.answer, (x.block, (x.row, o.1.1.1))))

pub start_one : OneOutcome start.ended (λ M 𝓤. start.clauses {𝓤 = 𝓤})
start_one w κs a o o' = one start.ended κs a (search codes depth 9) (λ (x : StartOut). (x.answer, (o.1.0, (x.row, o.1.1.1))))

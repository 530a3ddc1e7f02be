-- One outcome for every public function of `held`, at each length of a row: make, start and step over a row held by value.
use denote.RattleType.{RattleType}
use Rattle.outcomes.specs.Outcome.{OneOutcome}
use Rattle.outcomes.proofs.Law.{one, codes}
use Rattle.make.specs.Make.{MakeOut}
use Rattle.index.specs.Calls.{StartOut, StepOut}
use Rattle.held.specs.contracts.make_held
use Rattle.held.specs.contracts.start_held
use Rattle.held.specs.contracts.step_held

pub make_held_one : (N : RattleType) → OneOutcome (make_held.ended N) (λ M 𝓤. make_held.clauses N {𝓤 = 𝓤})
make_held_one N w κs a o o' = one (make_held.ended N) κs a (search codes depth 9) (λ (x : MakeOut). (record { answer = x.answer; row = x.row }, (x.block, o.1.1)))

pub start_held_one : (N : RattleType) → OneOutcome (start_held.ended N) (λ M 𝓤. start_held.clauses N {𝓤 = 𝓤})
start_held_one N w κs a o o' = one (start_held.ended N) κs a (search codes depth 9) (λ (x : StartOut). (record { answer = x.answer; row = x.row }, o.1))

pub step_held_one : (N : RattleType) → OneOutcome (step_held.ended N) (λ M 𝓤. step_held.clauses N {𝓤 = 𝓤})
step_held_one N w κs a o o' = one (step_held.ended N) κs a (search codes depth 9) (λ (x : StepOut). (record { answer = x.answer; row = x.row }, (x.block, o.1.1)))

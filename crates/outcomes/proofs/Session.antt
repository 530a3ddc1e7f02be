-- One outcome for every public function of `session`: what a line does.
use Rattle.outcomes.specs.Outcome.{OneOutcome}
use Rattle.outcomes.proofs.Law.{one, codes}
use Rattle.print.specs.Writing.{Out}
use Rattle.session.specs.Line.{Done}
use Rattle.session.specs.contracts.cut.line_end
use Rattle.session.specs.contracts.line.begin
use Rattle.session.specs.contracts.line.later
use Rattle.session.specs.contracts.line.act
use Rattle.session.specs.contracts.line.is_over
use Rattle.session.specs.contracts.line.finish
use Rattle.session.specs.contracts.text.put_said

pub line_end_one : OneOutcome line_end.ended (λ M 𝓤. line_end.clauses {𝓤 = 𝓤})
line_end_one w κs a o o' = one line_end.ended κs a (search codes depth 9) (λ x. (x, o.1))

pub begin_one : OneOutcome begin.ended (λ M 𝓤. begin.clauses {𝓤 = 𝓤})
begin_one w κs a o o' = one begin.ended κs a (search codes depth 9) (λ x. (x, o.1))

pub later_one : OneOutcome later.ended (λ M 𝓤. later.clauses {𝓤 = 𝓤})
later_one w κs a o o' = one later.ended κs a (search codes depth 9) (λ (x : Done). (x.turn, (x.block, (x.list, o.1.1.1))))

pub act_one : OneOutcome act.ended (λ M 𝓤. act.clauses {𝓤 = 𝓤})
act_one w κs a o o' = one act.ended κs a (search codes depth 9) (λ (x : Done). (x.turn, (x.block, (x.list, o.1.1.1))))

pub is_over_one : OneOutcome is_over.ended (λ M 𝓤. is_over.clauses {𝓤 = 𝓤})
is_over_one w κs a o o' = one is_over.ended κs a (search codes depth 9) (λ x. (x, o.1))

pub finish_one : OneOutcome finish.ended (λ M 𝓤. finish.clauses {𝓤 = 𝓤})
finish_one w κs a o o' = one finish.ended κs a (search codes depth 9) (λ x. (x, o.1))

pub put_said_one : OneOutcome put_said.ended (λ M 𝓤. put_said.clauses {𝓤 = 𝓤})
put_said_one w κs a o o' = one put_said.ended κs a (search codes depth 9) (λ (x : Out). (x.at, (x.buffer, o.1.1)))

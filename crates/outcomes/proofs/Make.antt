-- One outcome for the public function of `make`: making over a lent row.
use Rattle.outcomes.specs.Outcome.{OneOutcome}
use Rattle.outcomes.proofs.Law.{one, codes}
use Rattle.make.specs.Make.{MakeOut}
use Rattle.make.specs.contracts.make

pub make_one : OneOutcome make.ended (λ M 𝓤. make.clauses {𝓤 = 𝓤})
make_one w κs a o o' = one make.ended κs a (search codes depth 9) (λ (x : MakeOut). (x.answer, (x.block, (x.row, o.1.1.1))))

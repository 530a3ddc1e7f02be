-- One outcome for the public function of `fresh`: making a block.
use Rattle.outcomes.specs.Outcome.{OneOutcome}
use Rattle.outcomes.proofs.Law.{one, codes}
use Rattle.fresh.specs.Fresh.{MakeOut}
use Rattle.fresh.specs.contracts.make_block

pub make_block_one : OneOutcome make_block.ended (λ M 𝓤. make_block.clauses {𝓤 = 𝓤})
make_block_one w κs a o o' = one make_block.ended κs a (search codes depth 9) (λ (x : MakeOut). (x.made, (x.block, o.1.1)))

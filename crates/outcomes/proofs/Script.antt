-- One outcome for the public function of `script`: a line read.
use Rattle.outcomes.specs.Outcome.{OneOutcome}
use Rattle.outcomes.proofs.Law.{one, codes}
use Rattle.script.specs.contracts.read.read_line

pub read_line_one : OneOutcome read_line.ended (λ M 𝓤. read_line.clauses {𝓤 = 𝓤})
read_line_one w κs a o o' = one read_line.ended κs a (search codes depth 9) (λ x. (x, o.1))

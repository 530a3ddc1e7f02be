-- The proof that `read::literal` keeps its contract.
use Rattle.script.proofs.Turns.{literal_is}
use Rattle.script.proofs.read.literal.Goals as goal

pub returns : goal.returns
returns c = literal_is _ _ _ c.strip_prefix.ensures.cases

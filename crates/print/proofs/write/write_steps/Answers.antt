-- The proof that `write::write_steps` keeps its contract.
use Rattle.std.proofs.Common.{rules}
use Rattle.print.proofs.Buffers.{joined, given_back}
use Rattle.print.proofs.write.write_steps.Goals as goal

pub returns : goal.returns
returns c = given_back _ _ _ _ _ _ (joined _ _ _ _ _ _ _ _ c.named-2.ensures.puts c.named.ensures.puts) (search rules)

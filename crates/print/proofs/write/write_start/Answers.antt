-- The proof that `write::write_start` keeps its contract.
use Rattle.std.proofs.Common.{rules}
use Rattle.print.proofs.Buffers.{joined3, given_back}
use Rattle.print.proofs.write.write_start.Goals as goal

pub returns : goal.returns
returns c = given_back _ _ _ _ _ _ (joined3 _ _ _ _ _ _ _ _ _ _ _ c.named-2.ensures.puts c.op.ensures.puts c.named.ensures.puts) (search rules)

-- The proof that `write::write_making` keeps its contract.
use Rattle.std.proofs.Common.{rules}
use Rattle.print.proofs.Buffers.{joined3, given_back}
use Rattle.print.proofs.write.write_making.Goals as goal

pub returns : goal.returns
returns c = given_back _ _ _ _ _ _ (joined3 _ _ _ _ _ _ _ _ _ _ _ c.making.ensures.puts c.bytes.ensures.puts c.named.ensures.puts) (search rules)

-- The proof that `write::write_count` keeps its contract.
use Rattle.std.proofs.Common.{rules}
use Rattle.print.proofs.Buffers.{joined4, given_back}
use Rattle.print.proofs.write.write_count.Goals as goal

pub returns : goal.returns
returns c = given_back _ _ _ _ _ _ (joined4 _ _ _ _ _ _ _ _ _ _ _ _ _ _ c.bytes.ensures.puts c.named-3.ensures.puts c.named-2.ensures.puts c.named.ensures.puts) (search rules)

-- The proof that `write::write_key` keeps its contract.
use Rattle.std.proofs.Common.{rules}
use Rattle.print.proofs.Buffers.{joined, given_back}
use Rattle.print.proofs.write.write_key.Goals as goal

pub returns : goal.returns
returns c = given_back _ _ _ _ _ _ (joined _ _ _ _ _ _ _ _ c.bytes.ensures.puts c.named.ensures.puts) (search rules)

-- The proof that `write::Writer::making` keeps its contract.
use Rattle.std.proofs.Common.{rules}
use Rattle.print.proofs.Buffers.{joined3}
use Rattle.print.proofs.write.Writer.making.Goals as goal

pub returns : goal.returns
returns c = record { same = search rules; puts = joined3 _ _ _ _ _ _ _ _ _ _ _ c.named-3.ensures.puts c.named-2.ensures.puts c.named.ensures.puts }

-- The proof that `write::Writer::op` keeps its contract.
use Rattle.std.proofs.Common.{rules}
use Rattle.print.proofs.Buffers.{op_by}
use Rattle.print.proofs.write.Writer.op.Goals as goal

pub returns : goal.returns
returns c = record { same = search rules; puts = op_by _ _ _ _ _ _ _ c.bytes.ensures.puts (rw c.op_word.ensures at c.bytes-2.ensures.puts) }

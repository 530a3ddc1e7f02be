-- The proof that `write::Writer::answer` keeps its contract.
use Rattle.std.proofs.Common.{rules}
use Rattle.print.proofs.Buffers.{answer_by}
use Rattle.print.proofs.write.Writer.answer.Goals as goal

pub returns : goal.returns
returns c = record { same = search rules; puts = answer_by _ _ _ _ _ _ _ c.bytes.ensures.puts (rw c.answer_word.ensures at c.bytes-2.ensures.puts) }

-- The proof that `write::write_answer` keeps its contract.
use Rattle.std.proofs.Common.{rules}
use Rattle.print.proofs.Buffers.{joined6, given_back}
use Rattle.print.proofs.write.write_answer.Goals as goal

pub returns : goal.returns
returns c = given_back _ _ _ _ _ _ (joined6 _ _ _ _ _ _ _ _ _ _ _ _ _ _ _ _ _ _ _ _ c.bytes.ensures.puts c.named-3.ensures.puts c.answer.ensures.puts c.named-2.ensures.puts c.op.ensures.puts c.named.ensures.puts) (search rules)

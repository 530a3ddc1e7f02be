-- The proof that `write::Writer::number` keeps its contract.
use Rattle.print.proofs.Buffers.{number_one, number_more}
use Rattle.print.proofs.write.Writer.+number.Goals.{then-n-ge10, else-n-ge10}
use Rattle.print.proofs.write.Writer.+number.Goals as goal

pub returns : goal.returns
returns t c = elim c.if-n-ge10.branch [
  | then-n-ge10 w ↦ record {
    same = cc;
    puts = number_more _ _ _ _ _ _ _ w.if-n-ge10.true w.number.ensures.puts (rw w.self-is at c.bytes.ensures.puts);
  }
  | else-n-ge10 w ↦ record { same = cc; puts = number_one _ _ _ _ _ w.if-n-ge10.false (rw w.self-is at c.bytes.ensures.puts) }
]

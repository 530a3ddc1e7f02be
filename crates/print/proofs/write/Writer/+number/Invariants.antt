-- Of the proof that `write::Writer::number` keeps its contract, by recursion on the number.
use Rattle.print.proofs.write.Writer.+number.Given as goal

abbrev pub decreases-number : goal.decreases-number
decreases-number l = l.n

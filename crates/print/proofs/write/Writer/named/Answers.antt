-- The proof that `write::Writer::named` keeps its contract.
use Rattle.std.proofs.Common.{rules}
use Rattle.print.proofs.Buffers.{fields}
use Rattle.print.proofs.write.Writer.named.Goals as goal

pub returns : goal.returns
returns c = record { same = search rules; puts = search fields }

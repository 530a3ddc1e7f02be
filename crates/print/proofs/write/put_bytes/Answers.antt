-- The proof that `write::put_bytes` keeps its contract.
use Rattle.print.proofs.Buffers.{written_past, written_part}
use Rattle.print.proofs.write.put_bytes.Goals as goal

pub returns-then-buffer-at : goal.returns-then-buffer-at
returns-then-buffer-at c = written_past _ _ _ c.if-buffer-at.true

pub returns : goal.returns
returns c = written_part _ _ _ _ _ c.if-buffer-at.false c.min-n.ensures c.copy_from_slice.ensures.after

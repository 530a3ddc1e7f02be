-- What is said stays within the buffer, so that the part that was written can be lent.
use Rattle.std.proofs.Common.{arith}
use Rattle.session.proofs.Written.{written_within}
use Rattle.bench.proofs.Bench.take_line.Goals as goal

pub shared_ref_as_front-write_all : goal.shared_ref_as_front-write_all
shared_ref_as_front-write_all g c = omega (arith, written_within _ _ _ _ _ c.put_said-n.ensures (omega arith))

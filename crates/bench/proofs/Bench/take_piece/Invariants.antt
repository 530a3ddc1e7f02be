-- Each turn goes on behind a line's end.
use Rattle.std.proofs.Common.{◌-◌, length}
use Rattle.bench.proofs.Bench.take_piece.Given as goal

abbrev pub decreases-loop-at : goal.decreases-loop-at
decreases-loop-at g l = length l.piece - l.at

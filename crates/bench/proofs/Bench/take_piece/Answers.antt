-- A line ends within its piece.
use Rattle.bench.proofs.Within.{ends_within}
use Rattle.bench.proofs.Bench.take_piece.Goals as goal

pub slice_bounds-hold-end : goal.slice_bounds-hold-end
slice_bounds-hold-end g c = ends_within _ _ _ c.line_end-end.ensures c.loop-at-test.true

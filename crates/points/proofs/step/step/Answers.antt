-- A step whose header is read.
use Rattle.points.proofs.Steps.{step_good_lem}
use Rattle.points.proofs.step.step.Goals as goal

pub returns : goal.returns
returns c = let a = c.args in step_good_lem a.block.now a.rows a.n a.q _ c.read_header.ensures _ _ c.in_ok-h.was c.step_good.ensures

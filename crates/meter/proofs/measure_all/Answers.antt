-- The proof that `measure_all` keeps its contract.
use Rattle.std.proofs.Common.{rules}
use Rattle.meter.proofs.Measuring.{measured_all}
use Rattle.meter.proofs.measure_all.Goals as goal

pub returns : goal.returns
returns c = measured_all _ _ _ c.kin_of-root.ensures _ _ _ _ (search rules) (search rules) c.walk-allowed.ensures.left c.walk-allowed.ensures.met

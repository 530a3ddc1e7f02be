-- A period is not empty.
use Rattle.speed.proofs.Works.{period_some}
use Rattle.speed.proofs.work.asks.Goals as goal

pub nonzero_rem-result : goal.nonzero_rem-result
nonzero_rem-result c = period_some _ _ c.period.ensures

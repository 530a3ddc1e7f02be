-- The proof that `damage` keeps its contract.
use Rattle.meter.proofs.Measuring.{damage_measured}
use Rattle.meter.proofs.TallyPass.damage.Goals as goal

pub returns : goal.returns
returns c = damage_measured c.args.self.now

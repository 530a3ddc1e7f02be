-- The proof that `leaf` keeps its contract.
use Rattle.std.proofs.Common.{rules}
use Rattle.meter.proofs.Measuring.{leaf_measured}
use Rattle.meter.proofs.TallyPass.leaf.Goals as goal

pub returns : goal.returns
returns c = search (rules, leaf_measured)

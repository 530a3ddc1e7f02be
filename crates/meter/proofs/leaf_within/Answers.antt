-- The proof that `leaf_within` keeps its contract.
use Rattle.std.proofs.Common.{rules, tests, arith, ◌∙◌}
use Rattle.std.proofs.lemmas.Iterator.{YieldsList-from_range}
use Rattle.std.proofs.lemmas.Iterator.Search.{any_from_yields_List}
use Rattle.tables.specs.Choice.{both}
use Rattle.meter.proofs.Measuring.{within_all}
use Rattle.meter.proofs.leaf_within.Goals as goal

pub returns : goal.returns
unfolding both
returns c =
    any_from_yields_List _ _ _ _ c.any.ensures.ran (YieldsList-from_range 0 c.args.count c.args.count (cc) (omega arith)) (λ x b q k. search (rules, tests))
    ∙ within_all c.args.low c.args.high c.args.block.now c.args.h c.args.node c.args.count

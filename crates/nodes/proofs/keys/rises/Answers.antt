-- The proof that `keys::rises` keeps its contract.
use Rattle.std.proofs.Common.{rules, tests, arith, ◌∙◌}
use Rattle.std.proofs.lemmas.Iterator.{YieldsList-from_range}
use Rattle.std.proofs.lemmas.Iterator.Search.{all_from_yields_List}
use Rattle.nodes.proofs.Keyed.{rises_all}
use Rattle.nodes.proofs.keys.rises.Goals as goal

pub returns : goal.returns
returns c =
    all_from_yields_List _ _ _ _ c.all.ensures.ran (YieldsList-from_range 0 c.args.count c.args.count (cc) (omega arith)) (λ x b q k. search (rules, tests))
    ∙ rises_all c.args.block.now c.args.h c.args.node c.args.count

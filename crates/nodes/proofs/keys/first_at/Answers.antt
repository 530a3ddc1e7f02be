-- The proof that `keys::first_at` keeps its contract.
use Rattle.std.proofs.Common.{◌+◌, rules, tests, arith}
use Rattle.std.proofs.lemmas.Iterator.{YieldsList-from_range}
use Rattle.std.proofs.lemmas.Iterator.Search.{find_from_yields_List}
use Rattle.tables.specs.Layout.{key_word}
use Rattle.nodes.proofs.Keyed.{keys_first}
use Rattle.nodes.proofs.keys.first_at.Goals as goal

pub returns : goal.returns
returns g c = λ test is.
    keys_first c.args.block.now c.args.h c.args.node c.args.count test _ _ _
    (find_from_yields_List (λ i. test (key_word c.args.block.now c.args.h c.args.node (i + 1))) _ _ c.find.result c.find.ensures.ran (YieldsList-from_range 0 c.args.count c.args.count (cc) (omega arith)) (λ x b q k. search (rules, tests, is)))
    c.from-n.ensures c.unwrap_or.ensures

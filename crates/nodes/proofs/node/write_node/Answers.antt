-- The proof that `node::write_node` keeps its contract.
use borrow.Author.Rules.{rules}
use native.Mathlib.Omega.{arith}
use Rattle.tables.proofs.Lists.{sets-start, sets_again, sets-done}
use Rattle.nodes.proofs.node.write_node.Goals as goal

pub loop-o-init : goal.loop-o-init
loop-o-init c = search (rules, sets-start)

pub loop-o-preserved : goal.loop-o-preserved
loop-o-preserved c = (omega arith, search sets_again)

pub returns : goal.returns
returns c = sets-done _ _ _ _ _ _ (rw c.from.ensures at c.loop-o.invariant.1) (omega (arith, c.from.ensures))

-- The proof that `read::op_of` keeps its contract.
use Rattle.script.proofs.Turns.{op_find, op_insert, op_delete, op_unknown}
use Rattle.script.proofs.read.op_of.Goals as goal

pub returns-then-eq : goal.returns-then-eq
returns-then-eq c = op_find _ _ c.as_slice.ensures c.if-eq.ensures

pub returns-then-eq-2 : goal.returns-then-eq-2
returns-then-eq-2 c = op_insert _ _ c.as_slice.ensures _ c.as_slice-else-eq.ensures c.if-eq.ensures c.if-eq-2.ensures

pub returns-then-eq-3 : goal.returns-then-eq-3
returns-then-eq-3 c = op_delete _ _ c.as_slice.ensures _ c.as_slice-else-eq.ensures c.if-eq.ensures _ c.as_slice-else-eq-2.ensures c.if-eq-2.ensures c.if-eq-3.ensures

pub returns-else-eq-3 : goal.returns-else-eq-3
returns-else-eq-3 c = op_unknown _ _ c.as_slice.ensures _ c.as_slice-else-eq.ensures c.if-eq.ensures _ c.as_slice-else-eq-2.ensures c.if-eq-2.ensures c.if-eq-3.ensures

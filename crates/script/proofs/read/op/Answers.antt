-- The proof that `read::op` keeps its contract.
use Rattle.script.proofs.Turns.{op_none, op_some}
use Rattle.script.proofs.read.op.Goals as goal

pub returns-then-is_empty : goal.returns-then-is_empty
returns-then-is_empty c = op_none _ _ _ c.split_word.ensures.word c.split_word.ensures.rest c.if-is_empty.ensures

pub returns : goal.returns
returns c = op_some _ _ _ c.split_word.ensures.word c.split_word.ensures.rest _ c.if-is_empty.ensures c.op_of.ensures

-- A turn leaves what the part comes to as it was; at its end that is the tally so far.
use Rattle.speed.proofs.Works.{last, next, all_done}
use Rattle.speed.proofs.work.perform.Goals as goal

pub returns-then-is_over : goal.returns-then-is_over
returns-then-is_over c = last _ _ _ _ _ _ _ _ _ c.loop-i-test.true c.turn-e.ensures c.count.ensures c.is_over.ensures c.loop-i.invariant c.if-is_over.true

pub loop-i-preserved : goal.loop-i-preserved
loop-i-preserved c = next _ _ _ _ _ _ _ _ _ c.loop-i-test.true c.turn-e.ensures c.count.ensures c.is_over.ensures c.loop-i.invariant c.if-is_over.false

pub returns : goal.returns
returns c = all_done _ _ _ _ _ c.loop-i-test.false c.loop-i.auto.i-end c.loop-i.invariant

-- The steps of a line: one more, the one that ends them, and when there are no more.
use Rattle.std.proofs.Common.{arith}
use Rattle.session.proofs.Lines.{steps_again, steps_ended, steps_refused, steps_over}
use Rattle.session.proofs.line.steps.Goals as goal

pub returns-in-Ok-Ended : goal.returns-in-Ok-Ended
returns-in-Ok-Ended c =
    let f = c.in-Ok-Ended.field-0-is in
    steps_ended _ _ _ _ _ _ _ _ c.loop.invariant (omega arith) c.step_held-h.ensures _ _ _ c.in-Ok-Ended.is (rw c.in-Ok-Ended.is at f)

pub returns-in-Err : goal.returns-in-Err
returns-in-Err c = steps_refused _ _ _ _ _ _ _ _ c.loop.invariant (omega arith) c.step_held-h.ensures _ c.in-Err.is

pub loop-preserved : goal.loop-preserved
loop-preserved c =
    let f = c.in-Ok-GoesOn.field-0-is in
    steps_again _ _ _ _ _ _ _ _ c.loop.invariant (omega arith) c.step_held-h.ensures _ (omega arith) _ c.in-Ok-GoesOn.is (rw c.in-Ok-GoesOn.is at f)

pub returns : goal.returns
returns c = steps_over _ _ _ _ _ c.loop.invariant (omega arith)

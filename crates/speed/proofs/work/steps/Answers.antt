-- A step leaves what all of them come to as it was.
use Rattle.speed.proofs.Operations.{goes_on, ended, refused, none_left}
use Rattle.speed.proofs.work.steps.Goals as goal

pub loop-preserved : goal.loop-preserved
loop-preserved c =
    let f = c.in-Ok-GoesOn.field-0-is in
    goes_on _ _ _ _ _ _ _ c.loop-test.true c.step-answer.ensures c.loop.invariant _ c.in-Ok-GoesOn.is (rw c.in-Ok-GoesOn.is at f)

pub returns-in-Ok-Ended : goal.returns-in-Ok-Ended
returns-in-Ok-Ended c =
    let f = c.in-Ok-Ended.field-0-is in
    ended _ _ _ _ _ _ _ c.loop-test.true c.step-answer.ensures c.loop.invariant _ _ _ c.in-Ok-Ended.is (rw c.in-Ok-Ended.is at f)

pub returns-in-Err : goal.returns-in-Err
returns-in-Err c = refused _ _ _ _ _ _ _ c.loop-test.true c.step-answer.ensures c.loop.invariant _ c.in-Err.is

pub returns : goal.returns
returns c = none_left _ _ _ _ c.loop-test.false c.loop.invariant

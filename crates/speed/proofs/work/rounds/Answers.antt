-- A round leaves what all of them come to as it was; after the last that is the tally so far.
use Rattle.speed.proofs.Works.{next_round, all_rounds}
use Rattle.speed.proofs.work.rounds.Goals as goal

pub loop-preserved : goal.loop-preserved
loop-preserved c = next_round _ _ _ _ _ _ _ c.loop-test.true c.round.ensures c.loop.invariant

pub returns : goal.returns
returns c = all_rounds _ _ _ _ _ c.loop-test.false c.loop.invariant

-- A round is its making and its three parts.
use Rattle.speed.proofs.Works.{a_round}
use Rattle.speed.proofs.work.round.Goals as goal

pub returns : goal.returns
returns c = a_round _ _ _ _ _ _ _ _ _ _ _ _ _ c.fresh.ensures c.perform-count.ensures c.perform.ensures c.perform-2.ensures

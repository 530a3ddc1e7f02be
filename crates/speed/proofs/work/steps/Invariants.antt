-- What the steps that are left come to is what all of them come to.
use Rattle.std.proofs.Common.{◌≡◌, ◌-◌}
use Rattle.speed.specs.Steps.{steps_from}
use Rattle.speed.proofs.work.steps.Given as goal

abbrev pub invariant-loop : goal.invariant-loop
invariant-loop l = steps_from (l.most - l.counter) l.block l.row ≡ steps_from l.most l.fn.block l.fn.held

-- Of the proof that `line::steps` keeps its contract: what is left of the steps leads where all of them lead.
use Rattle.std.proofs.Common.{◌≡◌, ◌-◌}
use Rattle.session.specs.Line.{steps_of}
use Rattle.session.proofs.line.steps.Given as goal

abbrev pub invariant-loop : goal.invariant-loop
invariant-loop l = steps_of l.fn.times l.fn.block l.fn.row l.fn.process ≡ steps_of (l.times - l.counter) l.block l.now l.process

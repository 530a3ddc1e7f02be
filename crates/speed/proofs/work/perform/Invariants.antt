-- What the operations that are left come to, after the tally so far, is what the whole part comes to.
use Rattle.std.proofs.Common.{◌≡◌, ◌-◌}
use Rattle.speed.specs.Work.{done_from}
use Rattle.speed.proofs.work.perform.Given as goal

abbrev pub invariant-loop-i : goal.invariant-loop-i
invariant-loop-i l = done_from l.part (l.number - l.i) l.i l.tally l.block ≡ done_from l.part l.number 0 l.fn.tally l.fn.block

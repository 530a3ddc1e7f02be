-- What the rounds that are left come to, after the tally so far, is what all of them come to.
use Rattle.std.proofs.Common.{◌≡◌, ◌-◌}
use Rattle.speed.specs.Work.{nothing_yet, rounds_from}
use Rattle.speed.proofs.work.rounds.Given as goal

abbrev pub invariant-loop : goal.invariant-loop
invariant-loop l = rounds_from (l.w.rounds - l.counter) l.w l.tally l.block ≡ rounds_from l.w.rounds l.w nothing_yet l.fn.block

-- Of the proof that `walk` keeps its contract: it ends by the number of nodes still allowed.
use Rattle.std.proofs.Common.{◌≡◌}
use Rattle.meter.specs.Walk.{begin}
use Rattle.meter.proofs.Walks.{children}
use Rattle.meter.proofs.Pass.+walk.Given as goal

abbrev pub decreases-walk : goal.decreases-walk
decreases-walk g l = l.allowed

abbrev pub invariant-loop-i : goal.invariant-loop-i
invariant-loop-i g l =
    let w = children l.block l.h l.initial.left l.node l.i (begin l.initial.left) in
    record { left : l.left ≡ w.allowed; met : g.Self.Pass.met l.initial.self w.keys w.sound l.self }

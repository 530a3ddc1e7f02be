-- Of the proof that `draw_leaves` keeps its contract.
use Rattle.std.proofs.Common.{◌≡◌, [], get_or}
use Rattle.tables.specs.Choice.{listed}
use Rattle.nodes.specs.Keys.{key_array}
use Rattle.draws.specs.Draw.{leaves_from}
use Rattle.draws.proofs.draw_leaves.Given as goal

abbrev pub invariant-loop-i : goal.invariant-loop-i
invariant-loop-i l = l.block ≡ leaves_from l.initial.block l.h l.first (listed (λ m. get_or l.leaves m (key_array [])) 0 l.i)

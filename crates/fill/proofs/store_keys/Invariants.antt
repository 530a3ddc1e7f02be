-- Of the proof that `store_keys` keeps its contract.
use mathlib.Core.Path.{◌≡◌}
use lib.Seq.{sets}
use Rattle.nodes.specs.Keys.{keys_of}
use Rattle.fill.proofs.store_keys.Given as goal

abbrev pub invariant-loop-i : goal.invariant-loop-i
invariant-loop-i l = l.list ≡ sets l.initial.list l.at (keys_of l.block l.h l.node l.i)

-- Of the proof that `node::write_node` keeps its contract.
use mathlib.Core.Path.{◌≡◌}
use Prim.Native.Nat.{◌-◌, ◌+◌, ◌*◌}
use lib.ListN.{length}
use lib.Seq.{sets}
use Rattle.tables.specs.Choice.{listed}
use Rattle.nodes.specs.Node.{image_word}
use Rattle.nodes.proofs.node.write_node.Given as goal

abbrev pub invariant-loop-o : goal.invariant-loop-o
invariant-loop-o l =
    (length l.block ≡ length l.initial.block)
    × (sets l.initial.block (6 + (l.node - 1) * (2 * l.h.k + 1) + 0) (listed (image_word l.h.k l.tag l.keys l.first l.pending) 0 l.o-end)
    ≡ sets l.block (6 + (l.node - 1) * (2 * l.h.k + 1) + l.o) (listed (image_word l.h.k l.tag l.keys l.first l.pending) l.o (l.o-end - l.o)))

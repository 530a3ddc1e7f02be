-- What every row reads by: the words that a step may touch, whether what it sees is good, and the flag of a record.
use Rattle.std.specs.Prelude.{ℕ, ◌+◌, ◌*◌, Bool, true, not, List, eqb}
use Rattle.tables.specs.Layout.{tag_word, child_place, pending_place}
use Rattle.nodes.specs.Pending.{pending_of, pending_good}
use Rattle.nodes.specs.Node.{kin_of_tag, below_of, is_node}
use Rattle.tables.specs.declared.header.Header.{Header}
use Rattle.nodes.specs.declared.node.Kin.{Kin}
use Rattle.nodes.specs.declared.node.Kin.TheVariants.{Leaf, Internal}
use Rattle.process.specs.declared.Process.{Process}
use Rattle.help.specs.Touch.{Touch, reads, swaps, seen_by}

-- a word of a node's pending, and of its child i
abbrev pub read_pending : Header → ℕ → Touch
read_pending h node = reads node (pending_place h.k)

abbrev pub swap_pending : Header → ℕ → ℕ → ℕ → Touch
swap_pending h node from to = swaps node (pending_place h.k) from to

abbrev pub read_child : Header → ℕ → ℕ → Touch
read_child h node i = reads node (child_place h.k i)

abbrev pub swap_child : Header → ℕ → ℕ → ℕ → ℕ → Touch
swap_child h node i from to = swaps node (child_place h.k i) from to

-- a pending word seen is good: not "a pending whose record isn't of its kind"
abbrev pub seen_good : List ℕ → Header → Touch → Bool
seen_good b h t = pending_good b h (pending_of (seen_by b h t))

-- a child seen below a node is a good node above it
abbrev pub child_good : List ℕ → Header → ℕ → Touch → Bool
child_good b h parent t = is_node (below_of b h parent (seen_by b h t))

-- what a node is, by its tag; "internal or holding a key"
abbrev pub kin_at : List ℕ → Header → ℕ → Kin
kin_at b h node = kin_of_tag h node (tag_word b h node)

abbrev pub non_empty : Kin → Bool
non_empty (Leaf node count) = not (eqb count 0)
non_empty (Internal node) = true

-- the flag of a record, and what takes its place: "clean with the same record number"
abbrev pub flag_word : ℕ → ℕ → ℕ
flag_word r kind = 4 * r + kind

abbrev pub unflag : Header → Process → ℕ → ℕ → Touch
unflag h q node kind = swap_pending h node (flag_word q.helped kind) (4 * q.helped)

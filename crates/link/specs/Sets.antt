-- The set of a block; the tables and the set at a moment of a list of events.
use Rattle.std.specs.Prelude.{ℕ, List}
use Rattle.tables.specs.Header.{header_of}
use Rattle.history.specs.View.{View, Holds}
use Rattle.history.specs.Shared.{Shared}
use Rattle.link.specs.Tables.{tables_of}
use Rattle.link.specs.Events.{Event, State, block_at, header_at}

abbrev pub tables_at : State → List Event → ℕ → Shared
tables_at s es m = tables_of (header_at s es m) (block_at s es m)

abbrev pub view_at : State → List Event → ℕ → View
view_at s es m = (tables_at s es m).view

-- key x is in the set of a block: a leaf reached from node 1 by child words has it among its tag's keys
abbrev pub Has : List ℕ → ℕ → Type 0
Has b x = Holds (header_of b).k (tables_of (header_of b) b).view x

-- in the set at moment m
abbrev pub InSet : State → List Event → ℕ → ℕ → Type 0
InSet s es m x = Has (block_at s es m) x

-- Computed: the listing of the tree that a run begins with.
use mathlib.Core.Path.{◌≡◌, refl}
use mathlib.Core.List.{[], ◌∷◌}
use Rattle.std.specs.Prelude.{Ok}
use Rattle.tables.specs.Choice.{pick, both, listed}
use Rattle.tables.specs.Numbers.{numbers_good}
use Rattle.tables.specs.Header.{header_good}
use Rattle.nodes.specs.Keys.{rises}
use Rattle.fresh.specs.Fresh.{fresh_header, fresh_block}
use Rattle.meter.specs.Walk.{in_order, walk_of}
use Rattle.walk.specs.Calls.{list_out, list_of}

-- the set of a fresh tree is empty
pub list_fresh : list_of (fresh_block (fresh_header 2 1 16 8)) (7 ∷ 7 ∷ []) ≡ list_out (Ok 0) (7 ∷ 7 ∷ [])
unfolding pick both listed numbers_good header_good rises in_order walk_of
list_fresh = refl

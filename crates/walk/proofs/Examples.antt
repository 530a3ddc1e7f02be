-- Computed: listing, its twin and range on the block of run (d), and on damaged ones.
use Prim.Native.Nat.{ℕ}
use mathlib.Core.Path.{◌≡◌, refl}
use mathlib.Core.List.{List, [], ◌∷◌, ◌++◌}
use lib.ListN.{set, replicate}
use Rattle.std.specs.Prelude.{true, false, Ok, Err}
use Rattle.tables.specs.Choice.{pick, both, listed}
use Rattle.tables.specs.Numbers.{numbers_good}
use Rattle.tables.specs.Header.{header_good}
use Rattle.nodes.specs.Keys.{rises}
use Rattle.tables.specs.declared.numbers.Refusal.TheVariants.{Damaged, InfinityGiven, ListTooShort, LowAboveHigh}
use Rattle.meter.specs.Walk.{in_order, walk_of}
use Rattle.meter.specs.Measure.{any_within}
use Rattle.walk.specs.Calls.{list_out, list_of, part_of, range_of}

-- 3 and 5 inserted, as run (d) leaves the block: node 7 is internal, with the leaves 8 and 9
abbrev two : List ℕ
two =
    (2 ∷ 1 ∷ 16 ∷ 9 ∷ 8 ∷ 2 ∷ [])
    ++ ((2 ∷ 4294967295 ∷ 2 ∷ 3 ∷ 0 ∷ [])
    ++ ((2 ∷ 4294967295 ∷ 7 ∷ 5 ∷ 8 ∷ [])
    ++ (replicate 15 0
    ++ ((1 ∷ 3 ∷ 0 ∷ 0 ∷ 0 ∷ [])
    ++ ((2 ∷ 5 ∷ 8 ∷ 9 ∷ 8 ∷ [])
    ++ ((1 ∷ 3 ∷ 0 ∷ 0 ∷ 0 ∷ [])
    ++ ((1 ∷ 5 ∷ 0 ∷ 0 ∷ 0 ∷ [])
    ++ (replicate 35 0
    ++ ((1 ∷ 4 ∷ 2 ∷ 6 ∷ 0 ∷ 1 ∷ 2 ∷ 3 ∷ [])
    ++ ((1 ∷ 6 ∷ 2 ∷ 7 ∷ 0 ∷ 1 ∷ 2 ∷ 5 ∷ [])
    ++ replicate 53 0))))))))))

-- "fills the list from its front .. The rest is untouched"; one word too short
pub list_two : list_of two (7 ∷ 7 ∷ 7 ∷ []) ≡ list_out (Ok 2) (3 ∷ 5 ∷ 7 ∷ [])
unfolding pick both listed numbers_good header_good rises in_order walk_of
list_two = refl

pub list_short : list_of two (7 ∷ []) ≡ list_out (Err ListTooShort) (7 ∷ [])
unfolding pick both listed numbers_good header_good rises in_order walk_of
list_short = refl

pub part_two : (part_of two (7 ∷ 7 ∷ 7 ∷ []) ≡ 3 ∷ 5 ∷ []) × (part_of two (7 ∷ []) ≡ [])
unfolding pick both listed numbers_good header_good rises in_order walk_of
part_two = (refl, refl)

-- "ends included"
pub range_two : (range_of two 4 4 ≡ Ok true) × (range_of two 4 5 ≡ Ok false) × (range_of two 0 3 ≡ Ok false) × (range_of two 5 4 ≡ Err LowAboveHigh) × (range_of two 4 4294967295 ≡ Err InfinityGiven)
unfolding pick both listed numbers_good header_good rises in_order walk_of any_within
range_two = (refl, refl, refl, refl, refl)

-- node 7's first child is 2, below it; and nodes 2 and 7 hung twice, so that the walk meets more nodes than are in use
pub below_parent : (list_of (set two 38 2) (7 ∷ 7 ∷ []) ≡ list_out (Err Damaged) (7 ∷ 7 ∷ [])) × (range_of (set two 38 2) 5 5 ≡ Err Damaged)
unfolding pick both listed numbers_good header_good rises in_order walk_of any_within
below_parent = (refl, refl)

pub too_many : list_of (set (set two 9 2) 14 7) (replicate 9 7) ≡ list_out (Err Damaged) (replicate 9 7)
unfolding pick both listed numbers_good header_good rises in_order walk_of
too_many = refl

-- Computed: document 01's example of a block length, fresh blocks of the least and the greatest k, and making on a longer block.
use Prim.Native.Nat.{ℕ}
use mathlib.Core.Path.{◌≡◌, refl}
use mathlib.Core.List.{List, [], ◌∷◌, ◌++◌}
use lib.ListN.{replicate}
use Rattle.std.specs.Prelude.{Ok, Err}
use Rattle.tables.specs.Choice.{pick, both, listed}
use Rattle.tables.specs.Numbers.{numbers_good}
use Rattle.tables.specs.Layout.{depth_of, block_words}
use Rattle.fresh.specs.Fresh.{fresh_header, fresh_block, make_out, make_of}
use Rattle.tables.specs.declared.numbers.Refusal.TheVariants.{MakingNumber, TooShort}

-- "Example: k=2, 1 process, 16 nodes, 8 records: D is 5, 155 words."
pub example_length : (depth_of (fresh_header 2 1 16 8) ≡ 5) × (block_words (fresh_header 2 1 16 8) ≡ 155)
unfolding pick
example_length = (refl, refl)

-- header, root and dummy; all other words are zero
abbrev block2 : List ℕ
block2 =
    (2 ∷ 1 ∷ 16 ∷ 5 ∷ 8 ∷ 0 ∷ [])
    ++ ((2 ∷ 4294967295 ∷ 2 ∷ 3 ∷ 0 ∷ [])
    ++ ((2 ∷ 4294967295 ∷ 4 ∷ 5 ∷ 0 ∷ [])
    ++ replicate 139 0))

pub fresh2 : fresh_block (fresh_header 2 1 16 8) ≡ block2
unfolding pick listed
fresh2 = refl

abbrev block8 : List ℕ
block8 =
    (8 ∷ 1 ∷ 17 ∷ 17 ∷ 1 ∷ 0 ∷ [])
    ++ ((8 ∷ 4294967295 ∷ 4294967295 ∷ 4294967295 ∷ 4294967295 ∷ 4294967295 ∷ 4294967295 ∷ 4294967295 ∷ 2 ∷ 3 ∷ 4 ∷ 5 ∷ 6 ∷ 7 ∷ 8 ∷ 9 ∷ 0 ∷ [])
    ++ ((8 ∷ 4294967295 ∷ 4294967295 ∷ 4294967295 ∷ 4294967295 ∷ 4294967295 ∷ 4294967295 ∷ 4294967295 ∷ 10 ∷ 11 ∷ 12 ∷ 13 ∷ 14 ∷ 15 ∷ 16 ∷ 17 ∷ 0 ∷ [])
    ++ replicate 263 0))

pub fresh8 : fresh_block (fresh_header 8 1 17 1) ≡ block8
unfolding pick listed
fresh8 = refl

-- "Words and records beyond those needed are untouched."
pub made_longer : make_of (replicate 157 7) 2 1 16 8 ≡ make_out (Ok tt) (block2 ++ 7 ∷ 7 ∷ [])
unfolding pick both listed numbers_good
made_longer = refl

-- one word too short; a node limit of 2k
pub made_short : make_of (replicate 154 7) 2 1 16 8 ≡ make_out (Err TooShort) (replicate 154 7)
unfolding pick both listed numbers_good
made_short = refl

pub made_narrow : make_of (replicate 157 7) 2 1 4 8 ≡ make_out (Err MakingNumber) (replicate 157 7)
unfolding pick both listed numbers_good
made_narrow = refl

-- "Each accepted step does the one row of its point .. and touches one shared word": the touch, the row around it, and what a step hands back.
use Rattle.std.specs.Prelude.{ℕ, Bool, false, List, eqb, set, Result, Ok, Err}
use Rattle.tables.specs.Choice.{pick}
use Rattle.tables.specs.Refusal.{refusal}
use Rattle.tables.specs.Layout.{node_at, node_word}
use Rattle.tables.specs.declared.header.Header.{Header}
use Rattle.tables.specs.declared.numbers.Refusal.{Refusal}
use Rattle.process.specs.declared.Stepped.{Stepped}

-- a word of a node, counted from its tag, that is read; or compared with a word and, where it is equal, swapped for another
pub data Touch : Type 0 where
  reads : ℕ → ℕ → Touch
  swaps : ℕ → ℕ → ℕ → ℕ → Touch

abbrev pub touched_node : Touch → ℕ
touched_node (reads node word) = node
touched_node (swaps node word from to) = node

abbrev pub touched_word : Touch → ℕ
touched_word (reads node word) = word
touched_word (swaps node word from to) = word

-- the value seen
abbrev pub seen_by : List ℕ → Header → Touch → ℕ
seen_by b h t = node_word b h (touched_node t) (touched_word t)

-- the swap is made
abbrev pub succeeds : List ℕ → Header → Touch → Bool
succeeds b h (reads node word) = false
succeeds b h (swaps node word from to) = eqb (node_word b h node word) from

-- the block after the touch
abbrev pub touched : List ℕ → Header → Touch → List ℕ
touched b h (reads node word) = b
touched b h (swaps node word from to) = pick (eqb (node_word b h node word) from) (set b (node_at h node word) to) b

-- a row: its touch; whether what it reads or swaps is sound; what follows from the value seen; the block afterwards
pub record Row : Type 0 where
  pub touch : Touch
  pub sound : Bool
  pub stepped : Stepped
  pub block : List ℕ

-- what a step hands back, and the block then
pub record Out : Type 0 where
  pub stepped : Result Stepped Refusal
  pub block : List ℕ

abbrev pub out : Result Stepped Refusal → List ℕ → Out
out s b = record { stepped = s; block = b }

-- a row that is done where it is sound, else refused 3
unfoldable pub row_done : List ℕ → Row → Out
row_done b row = pick row.sound (out (Ok row.stepped) row.block) (out (Err (refusal 3)) b)

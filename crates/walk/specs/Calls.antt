-- Listing, its twin and range: when each is refused, and what it answers and leaves.
use Rattle.std.specs.Prelude.{ℕ, ◌≤◌, not, List, [], ◌∷◌, ◌++◌, ltb, eqb, length, Bool, Result, Ok, Err}
use Rattle.tables.specs.Choice.{pick, either, Reason, reason, decide}
use Rattle.tables.specs.Numbers.{infinity}
use Rattle.tables.specs.Refusal.{refusal}
use Rattle.tables.specs.Header.{header_of, block_reasons}
use Rattle.tables.specs.Layout.{over_front}
use Rattle.tables.specs.declared.header.Header.{Header}
use Rattle.meter.specs.Walk.{walked}
use Rattle.meter.specs.Measure.{any_within}
use Rattle.walk.specs.Answer.{cleared}
use Rattle.tables.specs.declared.numbers.Refusal.{Refusal}

-- the keys of the set, as the walk meets them
abbrev pub keys_met : List ℕ → List ℕ
keys_met b = (walked b (header_of b)).keys

-- "listing 3, 9", after the reasons of the block; room is the length of the caller's list
abbrev pub list_rest : List ℕ → Header → ℕ → List Reason
list_rest b h room = reason 3 (not (walked b h).sound) ∷ reason 9 (ltb room (length (walked b h).keys)) ∷ []

abbrev pub list_reasons : List ℕ → ℕ → List Reason
list_reasons b room = block_reasons b ++ list_rest b (header_of b) room

-- what a listing answers, and the list then
pub record ListOut : Type 0 where
  pub listed : Result ℕ Refusal
  pub list : List ℕ

abbrev pub list_out : Result ℕ Refusal → List ℕ → ListOut
list_out listed list = record { listed = listed; list = list }

-- "The listing fills the list from its front and answers the count of keys, or its refusal .. The rest is untouched."
abbrev pub list_of : List ℕ → List ℕ → ListOut
list_of b list =
    decide (list_reasons b (length list)) (λ n. list_out (Err (refusal n)) list)
    (list_out (Ok (length (keys_met b))) (over_front (keys_met b) list))

-- "a twin call does the same and hands back the filled part of the caller's list, empty if refused"
abbrev pub part_of : List ℕ → List ℕ → List ℕ
part_of b list = decide (list_reasons b (length list)) (λ n. []) (keys_met b)

-- of a set, by what is in it: no key of it lies from low to high, ends included; one does
abbrev pub ClearOf : (ℕ → Type 0) → ℕ → ℕ → Type 0
ClearOf set low high = (x : ℕ) → low ≤ x → x ≤ high → ¬ set x

pub record Between (set : ℕ → Type 0) (low high : ℕ) : Type 0 where
  pub key : ℕ
  pub held : set key
  pub from : low ≤ key
  pub to : key ≤ high

-- "range 6, 10, 3", after the reasons of the block
abbrev pub range_rest : List ℕ → Header → ℕ → ℕ → List Reason
range_rest b h low high =
    reason 6 (either (eqb low infinity) (eqb high infinity))
    ∷ reason 10 (ltb high low)
    ∷ reason 3 (not (walked b h).sound)
    ∷ []

abbrev pub range_reasons : List ℕ → ℕ → ℕ → List Reason
range_reasons b low high = block_reasons b ++ range_rest b (header_of b) low high

-- "Clear-of-range answers yes exactly when no key of the set lies from low to high, ends included."
abbrev pub range_of : List ℕ → ℕ → ℕ → Result Bool Refusal
range_of b low high =
    decide (range_reasons b low high) (λ n. Err (refusal n)) (cleared (pick (any_within low high (keys_met b)) 0 1))

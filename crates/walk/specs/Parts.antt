-- What the private parts of the calls promise: a call on a block whose header has been read, and how many words a listing has filled.
use Rattle.std.specs.Prelude.{ℕ, Bool, List, length, Result, Ok, Err}
use Rattle.std.specs.Result.{result_unwrap_or}
use Rattle.tables.specs.Choice.{pick, decide}
use Rattle.tables.specs.Refusal.{refusal}
use Rattle.tables.specs.Layout.{over_front}
use Rattle.tables.specs.declared.header.Header.{Header}
use Rattle.meter.specs.Walk.{walked}
use Rattle.meter.specs.Measure.{any_within}
use Rattle.walk.specs.Answer.{cleared}
use Rattle.walk.specs.Calls.{ListOut, list_out, list_rest, range_rest}
use Rattle.tables.specs.declared.numbers.Refusal.{Refusal}

abbrev pub list_good : List ℕ → Header → List ℕ → ListOut
list_good b h list =
    decide (list_rest b h (length list)) (λ n. list_out (Err (refusal n)) list)
    (list_out (Ok (length (walked b h).keys)) (over_front (walked b h).keys list))

abbrev pub range_good : List ℕ → Header → ℕ → ℕ → Result Bool Refusal
range_good b h low high =
    decide (range_rest b h low high) (λ n. Err (refusal n)) (cleared (pick (any_within low high (walked b h).keys) 0 1))

-- how many words of the list a listing has filled
abbrev pub filled_of : Result ℕ Refusal → ℕ
filled_of r = result_unwrap_or r 0

-- Document 01, "What a call returns": making over a lent block and a lent row of process records. It says its answer, the whole block and the whole row afterwards, on every input.
use Rattle.std.specs.Prelude.{ℕ, not, List, [], ◌∷◌, ltb, length, Result, Ok, Err}
use Rattle.tables.specs.declared.numbers.Refusal.{Refusal}
use Rattle.tables.specs.Choice.{Reason, reason, decide}
use Rattle.tables.specs.Numbers.{k_stored, numbers_good}
use Rattle.tables.specs.Refusal.{refusal}
use Rattle.tables.specs.Layout.{block_words, over_front}
use Rattle.fresh.specs.Fresh.{fresh_header, fresh_block, fresh_row}
use Rattle.process.specs.Process.{idle}
use Rattle.process.specs.declared.Process.{Process}

-- "Making checks 1, 2": 2 for the block, and for the row
abbrev pub make_reasons : List ℕ → ℕ → ℕ → ℕ → ℕ → ℕ → List Reason
make_reasons b rows k processes nodes records =
    reason 1 (not (numbers_good (k_stored k) processes nodes records))
    ∷ reason 2 (ltb (length b) (block_words (fresh_header k processes nodes records)))
    ∷ reason 2 (ltb rows processes)
    ∷ []

-- what a making answers, and the block and the row then
pub record MakeOut : Type 0 where
  pub answer : Result (Unit {0}) Refusal
  pub block : List ℕ
  pub row : List Process

abbrev pub make_out : Result (Unit {0}) Refusal → List ℕ → List Process → MakeOut
make_out a b row = record { answer = a; block = b; row = row }

-- "Fresh tree (Figure 6)", "all process records idle"; "Words and records beyond those needed are untouched."
unfoldable pub make_call : List ℕ → List Process → ℕ → ℕ → ℕ → ℕ → MakeOut
make_call b row k processes nodes records =
    decide (make_reasons b (length row) k processes nodes records)
    (λ n. make_out (Err (refusal n)) b row)
    (make_out (Ok tt) (over_front (fresh_block (fresh_header k processes nodes records)) b) (over_front (fresh_row idle (fresh_header k processes nodes records)) row))

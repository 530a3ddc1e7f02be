-- A step and a start by value, on every input: when each is refused, and what it leaves.
use Rattle.std.specs.Prelude.{ℕ, Bool, not, List, [], ◌∷◌, ◌++◌, ltb, eqb, Result, Ok, Err}
use Rattle.tables.specs.Choice.{both, within, Reason, reason, decide}
use Rattle.tables.specs.Numbers.{infinity}
use Rattle.tables.specs.Refusal.{refusal}
use Rattle.tables.specs.Header.{header_of, block_reasons}
use Rattle.tables.specs.declared.header.Header.{Header}
use Rattle.process.specs.Process.{started_as}
use Rattle.process.specs.declared.Process.{Process}
use Rattle.damage.specs.Fields.{process_good}
use Rattle.damage.specs.Helped.{helped_good}
use Rattle.help.specs.Touch.{Out, out}
use Rattle.points.specs.Rows.{row_of}
use Rattle.tables.specs.declared.numbers.Refusal.{Refusal}

-- nothing that the step reads or swaps is damaged
abbrev pub sound_step : List ℕ → Header → ℕ → Process → Bool
sound_step b h n q = both (process_good b h q) (both (helped_good b h q) (row_of b h n q).sound)

-- "no such process"
abbrev pub no_process : Header → ℕ → Bool
no_process h n = not (within 1 n h.processes)

-- "2 .. block or process row too short": the row is lent as rows records, one per process
abbrev pub row_reasons : Header → ℕ → ℕ → List Reason
row_reasons h rows n = reason 2 (ltb rows h.processes) ∷ reason 4 (no_process h n) ∷ []

-- "step 8, 3"
abbrev pub step_rest : List ℕ → Header → ℕ → Process → List Reason
step_rest b h n q = reason 8 (eqb q.operation 0) ∷ reason 3 (not (sound_step b h n q)) ∷ []

-- "Other calls check 2 for the header's 6 words, 3 for the header, 2 for the rest, then 4; .. step 8, 3"
abbrev pub step_reasons : List ℕ → ℕ → ℕ → Process → List Reason
step_reasons b rows n q = block_reasons b ++ (row_reasons (header_of b) rows n ++ step_rest b (header_of b) n q)

abbrev pub step_refused : List ℕ → ℕ → Out
step_refused b r = out (Err (refusal r)) b

abbrev pub step_done : List ℕ → Header → ℕ → Process → Out
step_done b h n q = out (Ok (row_of b h n q).stepped) (row_of b h n q).block

-- a step of process n, whose record is q, beside a row of so many records
abbrev pub step_of : List ℕ → ℕ → ℕ → Process → Out
step_of b rows n q = decide (step_reasons b rows n q) (step_refused b) (step_done b (header_of b) n q)

-- "start 5, 6, 7"
abbrev pub start_rest : Process → ℕ → ℕ → List Reason
start_rest q operation key =
    reason 5 (not (within 1 operation 3))
    ∷ reason 6 (eqb key infinity)
    ∷ reason 7 (not (eqb q.operation 0))
    ∷ []

abbrev pub start_reasons : List ℕ → ℕ → ℕ → Process → ℕ → ℕ → List Reason
start_reasons b rows n q operation key = block_reasons b ++ (row_reasons (header_of b) rows n ++ start_rest q operation key)

abbrev pub start_refused : ℕ → Result Process Refusal
start_refused r = Err (refusal r)

-- "A start sets operation, key, point 1 and p = 1 and clears the rest."
abbrev pub start_of : List ℕ → ℕ → ℕ → Process → ℕ → ℕ → Result Process Refusal
start_of b rows n q operation key =
    decide (start_reasons b rows n q operation key) start_refused (Ok (started_as operation key))

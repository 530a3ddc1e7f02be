-- "A refusal returns its number and changes nothing lent": a start or a step is refused n exactly when reason n holds and none before it, and leaves block and row alone then; else one record changes.
use Prim.Native.Nat.{ℕ, ◌-◌, ◌≤◌}
use mathlib.Core.Path.{◌≡◌, refl, ap}
use mathlib.Core.Bool.{true}
use mathlib.Core.List.{List, ◌++◌}
use mathlib.Core.Logic.{◌↔◌}
use native.Mathlib.Omega.{arith}
use borrow.Author.Tests.{ltb-false, not-false}
use lib.ListN.{length}
use lib.Seq.{get_or-set_same, get_or-set_other}
use Rattle.std.specs.Prelude.{Ok, Err}
use Rattle.tables.specs.Choice.{both, within, Reason, NoneHolds, nor, First}
use Rattle.tables.specs.Refusal.{number_of, refusal}
use Rattle.tables.specs.Header.{header_of, block_reasons}
use Rattle.tables.specs.declared.numbers.Refusal.{Refusal}
use Rattle.tables.proofs.Picks.{within_low, within_high}
use Rattle.tables.proofs.OneToOne.{none_accepts, call_leaves, call_exactly}
use Rattle.process.specs.Process.{idle, started_as}
use Rattle.process.specs.declared.Process.{Process}
use Rattle.help.specs.Touch.{Row}
use Rattle.points.specs.Rows.{row_of}
use Rattle.points.specs.Step.{row_reasons, start_rest, start_reasons, step_rest, step_reasons}
use Rattle.points.proofs.Refusals.{one_err, ok_not}
use Rattle.index.specs.Calls.{record_of, with_record, StartOut, start_out, start_call, StepOut, step_out, step_by, step_call}

-- "2 for the rest, then 4": the row has a record of process n
in_row : (b : List ℕ) (rows n : ℕ) (rest : List Reason) → NoneHolds (block_reasons b ++ (row_reasons (header_of b) rows n ++ rest)) → (1 ≤ n) × (n ≤ rows)
in_row b rows n rest (nor e1 (nor e2 (nor e3 (nor e4 (nor e5 g))))) =
    let w : within 1 n (header_of b).processes ≡ true = not-false _ e5 in
    (within_low 1 n (header_of b).processes w, omega (arith, within_high 1 n (header_of b).processes w, ltb-false rows (header_of b).processes e4))

-- a call that changes no record but that of process n
module _ (row z : List Process) (n : ℕ) (q : Process) (put : z ≡ with_record row n q) where
  others_stay : (m : ℕ) → 1 ≤ m → 1 ≤ n → (m ≡ n → ⊥) → record_of z m ≡ record_of row m
  others_stay m i j other = rw put (get_or-set_other row (n - 1) (m - 1) q idle (λ f. other (omega arith)))

  is_put : 1 ≤ n → n ≤ length row → record_of z n ≡ q
  is_put i j = rw put (get_or-set_same row (n - 1) q idle (omega arith))

module _ (b : List ℕ) (row : List Process) (n operation key : ℕ) where
  abbrev causes : List Reason
  causes = start_reasons b (length row) n (record_of row n) operation key

  module _ (e : Refusal) where
    pub start_exactly : ((start_call b row n operation key).answer ≡ Err e) ↔ First (number_of e) (start_reasons b (length row) n (record_of row n) operation key)
    unfolding start_call both
    start_exactly = call_exactly (λ (o : StartOut). o.answer) Err (λ d. start_out (Err d) row) _ causes (λ d. refl) one_err (λ g. ok_not _) refl e

    pub start_keeps : (start_call b row n operation key).answer ≡ Err e → start_call b row n operation key ≡ start_out (Err e) row
    unfolding start_call both
    start_keeps = call_leaves (λ (o : StartOut). o.answer) Err (λ d. start_out (Err d) row) _ causes (λ d. refl) one_err (λ g. ok_not _) refl e

  module _ (g : NoneHolds (start_reasons b (length row) n (record_of row n) operation key)) where
    pub start_accepted : start_call b row n operation key ≡ start_out (Ok tt) (with_record row n (started_as operation key))
    unfolding start_call
    start_accepted = none_accepts (λ i. start_out (Err (refusal i)) row) _ causes g

    its_place : (1 ≤ n) × (n ≤ length row)
    its_place = in_row b (length row) n (start_rest (record_of row n) operation key) g

    pub start_record : record_of (start_call b row n operation key).row n ≡ started_as operation key
    start_record = is_put row _ n (started_as operation key) (ap (λ (o : StartOut). o.row) start_accepted) its_place.0 its_place.1

    pub start_others : (m : ℕ) → 1 ≤ m → (m ≡ n → ⊥) → record_of (start_call b row n operation key).row m ≡ record_of row m
    start_others m i other = others_stay row _ n (started_as operation key) (ap (λ (o : StartOut). o.row) start_accepted) m i its_place.0 other

module _ (b : List ℕ) (row : List Process) (n : ℕ) where
  abbrev reasons : List Reason
  reasons = step_reasons b (length row) n (record_of row n)

  -- what its row says
  abbrev its : Row
  its = row_of b (header_of b) n (record_of row n)

  module _ (e : Refusal) where
    pub step_exactly : ((step_call b row n).answer ≡ Err e) ↔ First (number_of e) (step_reasons b (length row) n (record_of row n))
    unfolding step_call both
    step_exactly = call_exactly (λ (o : StepOut). o.answer) Err (λ d. step_out (Err d) b row) (step_by row n its) reasons (λ d. refl) one_err (λ g. ok_not _) refl e

    pub step_keeps : (step_call b row n).answer ≡ Err e → step_call b row n ≡ step_out (Err e) b row
    unfolding step_call both
    step_keeps = call_leaves (λ (o : StepOut). o.answer) Err (λ d. step_out (Err d) b row) (step_by row n its) reasons (λ d. refl) one_err (λ g. ok_not _) refl e

  module _ (g : NoneHolds (step_reasons b (length row) n (record_of row n))) where
    pub step_accepted : step_call b row n ≡ step_by row n (row_of b (header_of b) n (record_of row n))
    unfolding step_call
    step_accepted = none_accepts (λ i. step_out (Err (refusal i)) b row) (step_by row n its) reasons g

    its_row : (1 ≤ n) × (n ≤ length row)
    its_row = in_row b (length row) n (step_rest b (header_of b) n (record_of row n)) g

    pub step_record : record_of (step_call b row n).row n ≡ (row_of b (header_of b) n (record_of row n)).stepped.process
    step_record = is_put row _ n its.stepped.process (ap (λ (o : StepOut). o.row) step_accepted) its_row.0 its_row.1

    pub step_others : (m : ℕ) → 1 ≤ m → (m ≡ n → ⊥) → record_of (step_call b row n).row m ≡ record_of row m
    step_others m i other = others_stay row _ n its.stepped.process (ap (λ (o : StepOut). o.row) step_accepted) m i its_row.0 other

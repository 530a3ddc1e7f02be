-- The calls, return by return: what the calls below and the row's own functions leave is what a call's definition says.
use Prim.Native.Nat.{ℕ, ◌-◌}
use mathlib.Core.Path.{◌≡◌, refl, ap, ◌∙◌}
use mathlib.Core.List.{List}
use lib.ListN.{length, get_or, set}
use Rattle.std.specs.Prelude.{Result, Ok, Err}
use Rattle.tables.specs.Refusal.{refusal}
use Rattle.tables.proofs.OneToOne.{decide_on}
use Rattle.process.specs.Process.{idle}
use Rattle.process.specs.declared.Process.{Process}
use Rattle.process.specs.declared.Stepped.{Stepped}
use Rattle.tables.specs.declared.numbers.Refusal.{Refusal}
use Rattle.help.specs.Touch.{Out, out}
use Rattle.points.specs.Step.{step_reasons, step_refused, step_done, step_of, start_reasons, start_refused, start_of}
use Rattle.index.specs.Calls.{record_of, with_record, StartOut, start_out, start_call, StepOut, step_out, step_call}

module _ (b : List ℕ) (row : List Process) (n at : ℕ) (q : Process) (place : at ≡ n - 1) (taken : q ≡ get_or row at idle) where
  is_record : q ≡ record_of row n
  is_record = taken ∙ ap (λ (i : ℕ). get_or row i idle) place

  -- what a step by value leaves of block and row: a refused one leaves the row as it was
  stepped : Result Stepped Refusal → List ℕ → StepOut
  stepped (Ok s) c = step_out (Ok s.progress) c (with_record row n s.process)
  stepped (Err r) c = step_out (Err r) c row

  abbrev stepped_to : Out → StepOut
  stepped_to o = stepped o.stepped o.block

  step_by_value : (o : Out) → o ≡ step_of b (length row) n q → stepped_to o ≡ step_call b row n
  unfolding step_call stepped
  step_by_value o e =
      ap stepped_to (e ∙ ap (λ (r : Process). step_of b (length row) n r) is_record)
      ∙ decide_on stepped_to (step_refused b) (λ r. step_out (Err (refusal r)) b row) (step_done b _ n (record_of row n)) (λ r. refl)
      (step_reasons b (length row) n (record_of row n))

  pub step_accepted : (s : Stepped) (c : List ℕ) (z : List Process) → out (Ok s) c ≡ step_of b (length row) n q → z ≡ set row at s.process →
      step_out (Ok s.progress) c z ≡ step_call b row n
  unfolding stepped
  step_accepted s c z e f =
      ap (λ (r : List Process). step_out (Ok s.progress) c r) (f ∙ ap (λ (i : ℕ). set row i s.process) place) ∙ step_by_value (out (Ok s) c) e

  pub step_refuses : (r : Refusal) (c : List ℕ) → out (Err r) c ≡ step_of b (length row) n q → step_out (Err r) c row ≡ step_call b row n
  unfolding stepped
  step_refuses r c e = step_by_value (out (Err r) c) e

  started_to : Result Process Refusal → StartOut
  started_to (Ok q) = start_out (Ok tt) (with_record row n q)
  started_to (Err r) = start_out (Err r) row

  start_by_value : (operation key : ℕ) (s : Result Process Refusal) → s ≡ start_of b (length row) n q operation key → started_to s ≡ start_call b row n operation key
  unfolding start_call started_to
  start_by_value operation key s e =
      ap started_to (e ∙ ap (λ (r : Process). start_of b (length row) n r operation key) is_record)
      ∙ decide_on started_to start_refused (λ r. start_out (Err (refusal r)) row) _ (λ r. refl) (start_reasons b (length row) n (record_of row n) operation key)

  pub start_accepted : (operation key : ℕ) (p : Process) (z : List Process) → Ok p ≡ start_of b (length row) n q operation key → z ≡ set row at p →
      start_out (Ok tt) z ≡ start_call b row n operation key
  unfolding started_to
  start_accepted operation key p z e f =
      ap (λ (r : List Process). start_out (Ok tt) r) (f ∙ ap (λ (i : ℕ). set row i p) place) ∙ start_by_value operation key (Ok p) e

  pub start_refuses : (operation key : ℕ) (r : Refusal) → Err r ≡ start_of b (length row) n q operation key → start_out (Err r) row ≡ start_call b row n operation key
  unfolding started_to
  start_refuses operation key r e = start_by_value operation key (Err r) e

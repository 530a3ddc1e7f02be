-- "A refusal returns its number and changes nothing lent": a step and a start are refused n exactly when reason n holds and none before it.
use Prim.Native.Nat.{ℕ}
use mathlib.Core.Path.{◌≡◌, refl}
use mathlib.Core.List.{List}
use mathlib.Core.Logic.{◌↔◌}
use native.Mathlib.Omega.{arith}
use Rattle.std.specs.Prelude.{Result, Ok, Err}
use Rattle.tables.specs.Choice.{both, Reason, NoneHolds, First}
use Rattle.tables.specs.Refusal.{number_of}
use Rattle.tables.specs.Header.{header_of}
use Rattle.tables.specs.declared.numbers.Refusal.{Refusal}
use Rattle.tables.proofs.OneToOne.{none_accepts, call_leaves, call_exactly}
use Rattle.process.specs.Process.{started_as}
use Rattle.process.specs.declared.Process.{Process}
use Rattle.process.specs.declared.Stepped.{Stepped}
use Rattle.help.specs.Touch.{Out, out}
use Rattle.points.specs.Step.{step_reasons, step_done, step_of, start_reasons, start_refused, start_of}

module _ {A : Type 0} where
  pub one_err : (d e : Refusal) → ◌≡◌ {A = Result A Refusal} (Err d) (Err e) → d ≡ e
  one_err d e f = cc

  pub ok_not : (x : A) (e : Refusal) → ◌≡◌ {A = Result A Refusal} (Ok x) (Err e) → ⊥
  ok_not x e f = let z : ◌≡◌ {A = ℕ} 0 1 = cc in omega arith

module _ (b : List ℕ) (rows n : ℕ) (q : Process) (e : Refusal) where
  abbrev done : Out
  done = step_done b (header_of b) n q

  abbrev answered : Out → Result Stepped Refusal
  answered o = o.stepped

  abbrev refusing : Refusal → Out
  refusing d = out (Err d) b

  -- the number of the first reason that holds
  pub step_exactly : ((step_of b rows n q).stepped ≡ Err e) ↔ First (number_of e) (step_reasons b rows n q)
  unfolding both
  step_exactly = call_exactly answered Err refusing done (step_reasons b rows n q) (λ d. refl) one_err (λ g. ok_not _) refl e

  -- and nothing changed
  pub refused_keeps : (step_of b rows n q).stepped ≡ Err e → step_of b rows n q ≡ out (Err e) b
  unfolding both
  refused_keeps = call_leaves answered Err refusing done (step_reasons b rows n q) (λ d. refl) one_err (λ g. ok_not _) refl e

module _ (b : List ℕ) (rows n : ℕ) (q : Process) (operation key : ℕ) where
  abbrev causes : List Reason
  causes = start_reasons b rows n q operation key

  abbrev fresh : Result Process Refusal
  fresh = Ok (started_as operation key)

  -- a start that is refused hands back no record: the caller's is as it was
  pub start_exactly : (e : Refusal) → (start_of b rows n q operation key ≡ Err e) ↔ First (number_of e) (start_reasons b rows n q operation key)
  unfolding both
  start_exactly e = call_exactly (λ r. r) Err Err fresh causes (λ d. refl) one_err (λ g. ok_not _) refl e

  -- else it is accepted
  pub start_accepted : NoneHolds (start_reasons b rows n q operation key) → start_of b rows n q operation key ≡ Ok (started_as operation key)
  start_accepted a = none_accepts start_refused fresh causes a

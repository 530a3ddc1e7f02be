-- The two calls on a state whose block fits its header: which are refused, and what the others do.
use Prim.Native.Nat.{ℕ, ◌+◌, ◌*◌, ◌≤◌}
use mathlib.Core.Path.{◌≡◌, refl, sym, ◌∙◌}
use mathlib.Core.Logic.{◌≢◌}
use mathlib.Core.Bool.{Bool, true, false}
use mathlib.Core.List.{List}
use native.Mathlib.Omega.{arith}
use native.Mathlib.Decide.{ℕ_discrete}
use lib.Dec.{ltb}
use lib.ListN.{length}
use borrow.Author.Tests.{le-ltb, le-leb, eq-eqb, ne_eqb}
use Rattle.std.specs.Prelude.{Ok, Err}
use Rattle.tables.specs.Choice.{pick, within}
use Rattle.tables.specs.Numbers.{infinity, numbers_good}
use Rattle.tables.specs.Layout.{block_words}
use Rattle.tables.specs.Refusal.{number_of, refusal}
use Rattle.tables.specs.Header.{header_of, header_good}
use Rattle.tables.specs.declared.header.Header.{Header}
use Rattle.tables.proofs.Picks.{within_low, within_high, both_is}
use Rattle.tables.proofs.Limits.{Limits}
use Rattle.process.specs.declared.Process.{Process}
use Rattle.process.specs.Process.{started_as}
use Rattle.points.specs.Rows.{row_of}
use Rattle.points.specs.Step.{sound_step}
use Rattle.index.specs.Calls.{with_record, StartOut, start_out, start_call, StepOut, step_out, step_by, step_call}
use Rattle.history.specs.View.{In}
use Rattle.link.specs.Events.{State, taken, start_in, step_in}
use Rattle.link.specs.Operations.{NoStart, start_of_none, start_of_nothing, start_of_infinity, start_of_busy}
use Rattle.link.proofs.Writes.{Fit}
use Rattle.link.proofs.Checks.{within_is}

pub limits_good : {h : Header} → Limits h → header_good h ≡ true
unfolding header_good numbers_good
limits_good {h} l =
    both_is
    (both_is (within_is 2 h.k 8 l.numbers.k_low l.numbers.k_high)
    (both_is (within_is 1 h.processes 32 l.numbers.processes_low l.numbers.processes_high)
    (both_is (within_is (2 * h.k + 1) h.nodes 4096 l.numbers.nodes_low l.numbers.nodes_high) (within_is 1 h.records 4096 l.numbers.records_low l.numbers.records_high))))
    (both_is (within_is (2 * h.k + 1) h.nodesused h.nodes l.used_low l.used_high) (le-leb h.recordsused h.records l.drawn_high))

-- what the calls leave: a step refused, or done; a start refused, or accepted
abbrev pub step_refused_in : State → ℕ → StepOut
step_refused_in s r = step_out (Err (refusal r)) s.block s.row

abbrev pub step_done_in : State → ℕ → StepOut
step_done_in s n = step_by s.row n (row_of s.block (header_of s.block) n (taken s n))

abbrev pub start_refused_in : State → ℕ → StartOut
start_refused_in s r = start_out (Err (refusal r)) s.row

abbrev pub start_done_in : State → ℕ → ℕ → ℕ → StartOut
start_done_in s n operation key = start_out (Ok tt) (with_record s.row n (started_as operation key))

-- the state with another block, and the record of one process put back
abbrev pub put_back : State → List ℕ → ℕ → Process → State
put_back s b n q = record { block = b; row = with_record s.row n q }

-- the state that a call leaves
abbrev pub stepped_to : StepOut → State
stepped_to o = record { block = o.block; row = o.row }

abbrev pub started_to : State → StartOut → State
started_to s o = record { block = s.block; row = o.row }

module _ (s : State) (fit : Fit (header_of s.block) s.block) (rows : (header_of s.block).processes ≤ length s.row) where
  abbrev b : List ℕ
  b = s.block

  abbrev h : Header
  h = header_of s.block

  t₁ : ltb (length b) 6 ≡ false
  t₁ = le-ltb (length b) 6 (omega (arith, fit.long))

  t₂ : header_good h ≡ true
  t₂ = limits_good fit.limits

  t₃ : ltb (length b) (block_words h) ≡ false
  t₃ = le-ltb (length b) (block_words h) fit.long

  t₄ : ltb (length s.row) h.processes ≡ false
  t₄ = le-ltb (length s.row) h.processes rows

  -- how a step goes
  pub data Step (n : ℕ) : Type 0 where
    unknown : ¬ In h.processes n → step_in s n ≡ step_refused_in s 4 → Step n
    rests : In h.processes n → (taken s n).operation ≡ 0 → step_in s n ≡ step_refused_in s 8 → Step n
    works : In h.processes n → (taken s n).operation ≢ 0 → (sound_step b h n (taken s n) ≡ true → step_in s n ≡ step_done_in s n) → Step n

  place : (n top : ℕ) → within 1 n top ≡ true → In top n
  place n top e = record { low = within_low 1 n top e; high = within_high 1 n top e }

  outside : (n top : ℕ) → within 1 n top ≡ false → ¬ In top n
  outside n top e u = let z : true ≡ false = sym (within_is 1 n top u.low u.high) ∙ e in let v : ◌≡◌ {A = ℕ} 0 1 = cc in omega arith

  pub step_goes : (n : ℕ) → Step n
  unfolding pick step_call
  step_goes n = go (within 1 n h.processes) refl (ℕ_discrete (taken s n).operation 0)
    where
      go : (t : Bool) → within 1 n h.processes ≡ t → Dec ((taken s n).operation ≡ 0) → Step n
      go false e d = unknown (outside n h.processes e) (rw (t₁, t₂, t₃, t₄, e) refl)
      go true e (yes z) = rests (place n h.processes e) z (rw (t₁, t₂, t₃, t₄, e, eq-eqb (taken s n).operation 0 z) refl)
      go true e (no z) = works (place n h.processes e) z (λ x. rw (t₁, t₂, t₃, t₄, e, ne_eqb (taken s n).operation 0 z, x) refl)

  -- how a start goes
  pub data Start (n operation key : ℕ) : Type 0 where
    refused : (r : ℕ) → NoStart s n operation key (number_of (refusal r)) → start_in s n operation key ≡ start_refused_in s r → Start n operation key
    accepted : In h.processes n → 1 ≤ operation → operation ≤ 3 → key ≢ infinity → (taken s n).operation ≡ 0
        → start_in s n operation key ≡ start_done_in s n operation key → Start n operation key

  pub start_goes : (n operation key : ℕ) → Start n operation key
  unfolding pick start_call
  start_goes n operation key =
      go (within 1 n h.processes) refl (within 1 operation 3) refl (ℕ_discrete key infinity) (ℕ_discrete (taken s n).operation 0)
    where
      go : (t : Bool) → within 1 n h.processes ≡ t → (u : Bool) → within 1 operation 3 ≡ u → Dec (key ≡ infinity) → Dec ((taken s n).operation ≡ 0) → Start n operation key
      go false e u f d z = refused 4 (start_of_none refl (outside n h.processes e)) (rw (t₁, t₂, t₃, t₄, e) refl)
      go true e false f d z = refused 5 (start_of_nothing refl (outside operation 3 f)) (rw (t₁, t₂, t₃, t₄, e, f) refl)
      go true e true f (yes d) z = refused 6 (start_of_infinity refl d) (rw (t₁, t₂, t₃, t₄, e, f, eq-eqb key infinity d) refl)
      go true e true f (no d) (no z) = refused 7 (start_of_busy refl z) (rw (t₁, t₂, t₃, t₄, e, f, ne_eqb key infinity d, ne_eqb (taken s n).operation 0 z) refl)
      go true e true f (no d) (yes z) =
          accepted (place n h.processes e) (within_low 1 operation 3 f) (within_high 1 operation 3 f) d z
          (rw (t₁, t₂, t₃, t₄, e, f, ne_eqb key infinity d, eq-eqb (taken s n).operation 0 z) refl)

-- A step that no reason refuses: what its checks leave known, and that it does its row.
use Prim.Native.Nat.{ℕ, ◌≤◌}
use mathlib.Core.Path.{◌≡◌}
use mathlib.Core.Bool.{true}
use mathlib.Core.List.{List}
use lib.ListN.{length}
use borrow.Author.Tests.{not-false, ltb-false}
use Rattle.tables.specs.Choice.{NoneHolds, none, nor}
use Rattle.tables.specs.Layout.{block_words}
use Rattle.tables.specs.Header.{header_of, header_good}
use Rattle.tables.specs.declared.header.Header.{Header}
use Rattle.tables.proofs.Picks.{both_1, both_2, within_low, within_high}
use Rattle.tables.proofs.Limits.{Limits, limits}
use Rattle.tables.proofs.OneToOne.{none_accepts}
use Rattle.process.specs.declared.Process.{Process}
use Rattle.damage.specs.Fields.{process_good}
use Rattle.damage.specs.Helped.{helped_good}
use Rattle.points.specs.Rows.{row_of}
use Rattle.points.specs.Step.{step_reasons, step_refused, step_done, step_of, sound_step}

abbrev pub Accepted : List ℕ → ℕ → ℕ → Process → Type 0
Accepted b rows n q = NoneHolds (step_reasons b rows n q)

pub accepted_does : (b : List ℕ) (rows n : ℕ) (q : Process) → Accepted b rows n q → step_of b rows n q ≡ step_done b (header_of b) n q
accepted_does b rows n q a = none_accepts (step_refused b) (step_done b (header_of b) n q) (step_reasons b rows n q) a

pub record Known (b : List ℕ) (h : Header) (n : ℕ) (q : Process) : Type 0 where
  pub good : header_good h ≡ true
  pub limited : Limits h
  pub long : block_words h ≤ length b
  pub from_one : 1 ≤ n
  pub to_last : n ≤ h.processes
  pub fields : process_good b h q ≡ true
  pub helped : helped_good b h q ≡ true
  pub sound : (row_of b h n q).sound ≡ true

pub accepted_known : (b : List ℕ) (rows n : ℕ) (q : Process) → Accepted b rows n q → Known b (header_of b) n q
accepted_known b rows n q (nor a1 (nor a2 (nor a3 (nor a4 (nor a5 (nor a6 (nor a7 none))))))) =
    let s : sound_step b (header_of b) n q ≡ true = not-false _ a7 in
    record {
      good = not-false _ a2;
      limited = limits (header_of b) (not-false _ a2);
      long = ltb-false _ _ a3;
      from_one = within_low 1 n _ (not-false _ a5);
      to_last = within_high 1 n _ (not-false _ a5);
      fields = both_1 _ _ s;
      helped = both_1 _ _ (both_2 _ _ s);
      sound = both_2 _ _ (both_2 _ _ s);
    }

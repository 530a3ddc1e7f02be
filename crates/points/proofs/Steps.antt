-- A step and a start, return by return: the row of each point, what a sound record leaves to arithmetic, and the refusals.
use Prim.Native.Nat.{ℕ, ◌+◌, ◌*◌, ◌≤◌, ◌<◌}
use mathlib.Core.Path.{◌≡◌, refl, sym, ap, ◌∙◌}
use mathlib.Core.Bool.{Bool, true}
use mathlib.Core.List.{List}
use native.Mathlib.Omega.{arith}
use lib.Dec.{ltb}
use borrow.Author.Tests.{leb-true, lt-ltb, le-ltb, ne_eqb}
use Rattle.std.specs.Prelude.{Result, Ok, Err}
use Rattle.tables.specs.Choice.{pick, both}
use Rattle.tables.specs.Refusal.{refusal}
use Rattle.tables.specs.Header.{header_of, header_good, header_read}
use Rattle.nodes.specs.Pending.{word_of, pending_good}
use Rattle.tables.specs.declared.header.Header.{Header}
use Rattle.tables.specs.declared.numbers.Refusal.{Refusal}
use Rattle.nodes.specs.declared.pending.Pending.{Pending}
use Rattle.nodes.specs.declared.pending.Pending.TheVariants.{Clean, Replace, Prune, Mark}
use Rattle.tables.proofs.Picks.{both_1, both_2, pick_false, within_high}
use Rattle.tables.proofs.Limits.{Limits, limits, read_header, read_limits, read_refuses, read_accepts}
use Rattle.process.specs.declared.Process.{Process}
use Rattle.process.specs.declared.Stepped.{Stepped}
use Rattle.damage.specs.Fields.{process_good, numbers_good, records_good}
use Rattle.damage.specs.Helped.{record_good, helped_good}
use Rattle.help.specs.Touch.{Row, Out, out, row_done}
use Rattle.finish.specs.Rows.{row6, row7, row8, row12, row13, row14}
use Rattle.mark.specs.Rows.{row9, row10, row11, prune_marked}
use Rattle.help.proofs.Rowed.{row_not, at_row}
use Rattle.flag.specs.Rows.{row4, row5, prune_flagged}
use Rattle.points.specs.Rows.{row1, row2, row3, row_of, no_row}
use Rattle.points.specs.Step.{step_of, start_of}
use Rattle.points.specs.Parts.{Ready, step_good, start_good}

-- a fact of each row, at its point, is a fact of the row of the point
module _ (P : Row → Type 0) (b : List ℕ) (h : Header) (n : ℕ) (q : Process) where
  pub each_row : (q.point ≡ 1 → P (row1 b h q)) → (q.point ≡ 2 → P (row2 b h q)) → (q.point ≡ 3 → P (row3 b h q)) → (q.point ≡ 4 → P (row4 b h n q)) →
      (q.point ≡ 5 → P (row5 b h n q)) → (q.point ≡ 6 → P (row6 b h q)) → (q.point ≡ 7 → P (row7 b h q)) → (q.point ≡ 8 → P (row8 b h n q)) →
      (q.point ≡ 9 → P (row9 b h n q)) → (q.point ≡ 10 → P (row10 b h n q)) → (q.point ≡ 11 → P (row11 b h q)) → (q.point ≡ 12 → P (row12 b h q)) →
      (q.point ≡ 13 → P (row13 b h q)) → (q.point ≡ 14 → P (row14 b h n q)) → P (no_row b q) → P (row_of b h n q)
  unfolding row_of
  each_row r1 r2 r3 r4 r5 r6 r7 r8 r9 r10 r11 r12 r13 r14 none =
      at_row P q.point 1 _ _ r1
      (at_row P q.point 2 _ _ r2
      (at_row P q.point 3 _ _ r3
      (at_row P q.point 4 _ _ r4
      (at_row P q.point 5 _ _ r5
      (at_row P q.point 6 _ _ r6
      (at_row P q.point 7 _ _ r7
      (at_row P q.point 8 _ _ r8
      (at_row P q.point 9 _ _ r9
      (at_row P q.point 10 _ _ r10
      (at_row P q.point 11 _ _ r11
      (at_row P q.point 12 _ _ r12
      (at_row P q.point 13 _ _ r13
      (at_row P q.point 14 _ _ r14 none)))))))))))))

module _ (b : List ℕ) (h : Header) (n : ℕ) (q : Process) where
  pub row_at_1 : q.point ≡ 1 → row_of b h n q ≡ row1 b h q
  unfolding row_of pick
  row_at_1 e = rw e refl

  pub row_at_2 : q.point ≡ 2 → row_of b h n q ≡ row2 b h q
  unfolding row_of pick
  row_at_2 e = rw e refl

  pub row_at_3 : q.point ≡ 3 → row_of b h n q ≡ row3 b h q
  unfolding row_of pick
  row_at_3 e = rw e refl

  pub row_at_4 : q.point ≡ 4 → row_of b h n q ≡ row4 b h n q
  unfolding row_of pick
  row_at_4 e = rw e refl

  pub row_at_5 : q.point ≡ 5 → row_of b h n q ≡ row5 b h n q
  unfolding row_of pick
  row_at_5 e = rw e refl

  pub row_at_6 : q.point ≡ 6 → row_of b h n q ≡ row6 b h q
  unfolding row_of pick
  row_at_6 e = rw e refl

  pub row_at_7 : q.point ≡ 7 → row_of b h n q ≡ row7 b h q
  unfolding row_of pick
  row_at_7 e = rw e refl

  pub row_at_8 : q.point ≡ 8 → row_of b h n q ≡ row8 b h n q
  unfolding row_of pick
  row_at_8 e = rw e refl

  pub row_at_9 : q.point ≡ 9 → row_of b h n q ≡ row9 b h n q
  unfolding row_of pick
  row_at_9 e = rw e refl

  pub row_at_10 : q.point ≡ 10 → row_of b h n q ≡ row10 b h n q
  unfolding row_of pick
  row_at_10 e = rw e refl

  pub row_at_11 : q.point ≡ 11 → row_of b h n q ≡ row11 b h q
  unfolding row_of pick
  row_at_11 e = rw e refl

  pub row_at_12 : q.point ≡ 12 → row_of b h n q ≡ row12 b h q
  unfolding row_of pick
  row_at_12 e = rw e refl

  pub row_at_13 : q.point ≡ 13 → row_of b h n q ≡ row13 b h q
  unfolding row_of pick
  row_at_13 e = rw e refl

  pub row_at_14 : q.point ≡ 14 → row_of b h n q ≡ row14 b h n q
  unfolding row_of pick
  row_at_14 e = rw e refl

  fits_5 : Ready q → prune_flagged b h n q ≡ row_done b (row5 b h n q)
  unfolding prune_flagged pick
  fits_5 r = rw (lt-ltb (word_of q.pseen) 4294967296 r.pseen_small) refl

  fits_9 : Ready q → q.point ≡ 9 → prune_marked b h n q ≡ row_done b (row9 b h n q)
  unfolding prune_marked pick
  fits_9 r e = rw (lt-ltb (4 * q.helped + 3) 4294967296 (omega (arith, r.helped_small (omega arith)))) refl

  module _ (s : Result Stepped Refusal) (e : List ℕ) where
    pub at_1 : q.point ≡ 1 → out s e ≡ row_done b (row1 b h q) → out s e ≡ row_done b (row_of b h n q)
    at_1 f g = g ∙ ap (row_done b) (sym (row_at_1 f))

    pub at_2 : q.point ≡ 2 → out s e ≡ row_done b (row2 b h q) → out s e ≡ row_done b (row_of b h n q)
    at_2 f g = g ∙ ap (row_done b) (sym (row_at_2 f))

    pub at_3 : q.point ≡ 3 → out s e ≡ row_done b (row3 b h q) → out s e ≡ row_done b (row_of b h n q)
    at_3 f g = g ∙ ap (row_done b) (sym (row_at_3 f))

    pub at_4 : q.point ≡ 4 → out s e ≡ row_done b (row4 b h n q) → out s e ≡ row_done b (row_of b h n q)
    at_4 f g = g ∙ ap (row_done b) (sym (row_at_4 f))

    -- the value read on the way down is a word in a sound record
    pub at_5 : Ready q → q.point ≡ 5 → out s e ≡ prune_flagged b h n q → out s e ≡ row_done b (row_of b h n q)
    at_5 r f g = g ∙ fits_5 r ∙ ap (row_done b) (sym (row_at_5 f))

    pub at_6 : q.point ≡ 6 → out s e ≡ row_done b (row6 b h q) → out s e ≡ row_done b (row_of b h n q)
    at_6 f g = g ∙ ap (row_done b) (sym (row_at_6 f))

    pub at_7 : q.point ≡ 7 → out s e ≡ row_done b (row7 b h q) → out s e ≡ row_done b (row_of b h n q)
    at_7 f g = g ∙ ap (row_done b) (sym (row_at_7 f))

    pub at_8 : q.point ≡ 8 → out s e ≡ row_done b (row8 b h n q) → out s e ≡ row_done b (row_of b h n q)
    at_8 f g = g ∙ ap (row_done b) (sym (row_at_8 f))

    -- and the number of a sound record has room in a mark
    pub at_9 : Ready q → q.point ≡ 9 → out s e ≡ prune_marked b h n q → out s e ≡ row_done b (row_of b h n q)
    at_9 r f g = g ∙ fits_9 r f ∙ ap (row_done b) (sym (row_at_9 f))

    pub at_10 : q.point ≡ 10 → out s e ≡ row_done b (row10 b h n q) → out s e ≡ row_done b (row_of b h n q)
    at_10 f g = g ∙ ap (row_done b) (sym (row_at_10 f))

    pub at_11 : q.point ≡ 11 → out s e ≡ row_done b (row11 b h q) → out s e ≡ row_done b (row_of b h n q)
    at_11 f g = g ∙ ap (row_done b) (sym (row_at_11 f))

    pub at_12 : q.point ≡ 12 → out s e ≡ row_done b (row12 b h q) → out s e ≡ row_done b (row_of b h n q)
    at_12 f g = g ∙ ap (row_done b) (sym (row_at_12 f))

    pub at_13 : q.point ≡ 13 → out s e ≡ row_done b (row13 b h q) → out s e ≡ row_done b (row_of b h n q)
    at_13 f g = g ∙ ap (row_done b) (sym (row_at_13 f))

    pub at_14 : q.point ≡ 14 → out s e ≡ row_done b (row14 b h n q) → out s e ≡ row_done b (row_of b h n q)
    at_14 f g = g ∙ ap (row_done b) (sym (row_at_14 f))

  -- a point outside the fourteen has no row
  no_row_lem : (q.point ≡ 1 → ⊥) → (q.point ≡ 2 → ⊥) → (q.point ≡ 3 → ⊥) → (q.point ≡ 4 → ⊥) → (q.point ≡ 5 → ⊥) → (q.point ≡ 6 → ⊥) → (q.point ≡ 7 → ⊥) → (q.point ≡ 8 → ⊥) → (q.point ≡ 9 → ⊥) → (q.point ≡ 10 → ⊥) → (q.point ≡ 11 → ⊥) → (q.point ≡ 12 → ⊥) → (q.point ≡ 13 → ⊥) → (q.point ≡ 14 → ⊥) → row_of b h n q ≡ no_row b q
  unfolding row_of pick
  no_row_lem f1 f2 f3 f4 f5 f6 f7 f8 f9 f10 f11 f12 f13 f14 =
      rw (
        ne_eqb q.point 1 f1,
        ne_eqb q.point 2 f2,
        ne_eqb q.point 3 f3,
        ne_eqb q.point 4 f4,
        ne_eqb q.point 5 f5,
        ne_eqb q.point 6 f6,
        ne_eqb q.point 7 f7,
        ne_eqb q.point 8 f8,
        ne_eqb q.point 9 f9,
        ne_eqb q.point 10 f10,
        ne_eqb q.point 11 f11,
        ne_eqb q.point 12 f12,
        ne_eqb q.point 13 f13,
        ne_eqb q.point 14 f14,
      )
      refl

  not_a_row : out (Err (refusal 3)) b ≡ row_done b (no_row b q)
  unfolding no_row
  not_a_row = row_not b (no_row b q) refl

  pub at_none : (q.point ≡ 1 → ⊥) → (q.point ≡ 2 → ⊥) → (q.point ≡ 3 → ⊥) → (q.point ≡ 4 → ⊥) → (q.point ≡ 5 → ⊥) → (q.point ≡ 6 → ⊥) → (q.point ≡ 7 → ⊥) → (q.point ≡ 8 → ⊥) → (q.point ≡ 9 → ⊥) → (q.point ≡ 10 → ⊥) → (q.point ≡ 11 → ⊥) → (q.point ≡ 12 → ⊥) → (q.point ≡ 13 → ⊥) → (q.point ≡ 14 → ⊥) → out (Err (refusal 3)) b ≡ row_done b (row_of b h n q)
  at_none f1 f2 f3 f4 f5 f6 f7 f8 f9 f10 f11 f12 f13 f14 = not_a_row ∙ ap (row_done b) (sym (no_row_lem f1 f2 f3 f4 f5 f6 f7 f8 f9 f10 f11 f12 f13 f14))

  pub at_zero : q.point ≡ 0 → out (Err (refusal 3)) b ≡ row_done b (row_of b h n q)
  at_zero f = at_none (λ z. omega arith) (λ z. omega arith) (λ z. omega arith) (λ z. omega arith) (λ z. omega arith) (λ z. omega arith) (λ z. omega arith) (λ z. omega arith) (λ z. omega arith) (λ z. omega arith) (λ z. omega arith) (λ z. omega arith) (λ z. omega arith) (λ z. omega arith)

pub ruleset outside = (at_zero, at_none)

-- a pending that is good has a record number that fits a word
record_small : (b : List ℕ) (h : Header) (v : Pending) → h.recordsused ≤ 4096 → pending_good b h v ≡ true → word_of v < 4294967296
record_small b h (Clean r) p e = omega (arith, leb-true r h.recordsused e)
record_small b h (Replace r) p e = omega (arith, within_high 1 r h.recordsused (both_1 _ _ e))
record_small b h (Prune r) p e = omega (arith, within_high 1 r h.recordsused (both_1 _ _ e))
record_small b h (Mark r) p e = omega (arith, within_high 1 r h.recordsused (both_1 _ _ e))

module _ (b : List ℕ) (h : Header) (q : Process) where
  numbers_of : process_good b h q ≡ true → numbers_good h q ≡ true
  unfolding process_good
  numbers_of e = both_1 _ _ e

  records_of : process_good b h q ≡ true → records_good b h q ≡ true
  unfolding process_good
  records_of e = both_1 _ _ (both_2 _ _ (both_2 _ _ e))

  index_of : numbers_good h q ≡ true → q.index ≤ h.k
  unfolding numbers_good
  index_of e = leb-true _ _ (both_1 _ _ (both_2 _ _ (both_2 _ _ (both_2 _ _ e))))

  pseen_of : records_good b h q ≡ true → pending_good b h q.pseen ≡ true
  unfolding records_good
  pseen_of e = both_1 _ _ e

  helped_used : 6 ≤ q.point → helped_good b h q ≡ true → q.helped ≤ h.recordsused
  unfolding helped_good record_good
  helped_used p f = within_high 1 q.helped _ (both_1 _ _ (both_1 _ _ (sym (pick_false (ltb q.point 6) true _ (le-ltb q.point 6 p)) ∙ f)))

  ready_with : Limits h → process_good b h q ≡ true → helped_good b h q ≡ true → Ready q
  ready_with l e f = record {
    index_small = omega (arith, index_of (numbers_of e));
    pseen_small = record_small b h q.pseen (omega arith) (pseen_of (records_of e));
    helped_small = λ p. omega (arith, helped_used p f);
  }

  pub ready : (t : Bool) → header_good h ≡ true → t ≡ both (process_good b h q) (helped_good b h q) → t ≡ true → Ready q
  ready t g e f = ready_with (limits h g) (both_1 _ _ (sym e ∙ f)) (both_2 _ _ (sym e ∙ f))

-- a call whose header is read goes on with it, and is refused as its reading is
module _ (b : List ℕ) (rows n : ℕ) (q : Process) (a : Result Header Refusal) (e : a ≡ header_read b) where
  pub step_refused_lem : (r : Refusal) → a ≡ Err r → out (Err r) b ≡ step_of b rows n q
  step_refused_lem r f = read_refuses (λ (x : Refusal). out (Err x) b) (step_good b (header_of b) rows n q) b r (sym e ∙ f)

  pub step_good_lem : (o : Out) (h : Header) → a ≡ Ok h → o ≡ step_good b h rows n q → o ≡ step_of b rows n q
  step_good_lem o h f g =
      g
      ∙ ap (λ (x : Header). step_good b x rows n q) (sym (read_header b h (sym e ∙ f)))
      ∙ read_accepts (λ (x : Refusal). out (Err x) b) (step_good b (header_of b) rows n q) b h (sym e ∙ f)

pub header_good_lem : (b : List ℕ) (a : Result Header Refusal) (h : Header) → a ≡ header_read b → a ≡ Ok h → header_good h ≡ true
header_good_lem b a h e f = read_limits b h (sym e ∙ f)

pub ruleset calls = (step_refused_lem, step_good_lem, header_good_lem)

module _ (b : List ℕ) (rows n : ℕ) (q : Process) (operation key : ℕ) (a : Result Header Refusal) (e : a ≡ header_read b) where
  pub start_refused_lem : (r : Refusal) → a ≡ Err r → Err r ≡ start_of b rows n q operation key
  start_refused_lem r f = read_refuses (λ (x : Refusal). Err x) (start_good (header_of b) rows n q operation key) b r (sym e ∙ f)

  pub start_good_lem : (s : Result Process Refusal) (h : Header) → a ≡ Ok h → s ≡ start_good h rows n q operation key → s ≡ start_of b rows n q operation key
  start_good_lem s h f g =
      g
      ∙ ap (λ (x : Header). start_good x rows n q operation key) (sym (read_header b h (sym e ∙ f)))
      ∙ read_accepts (λ (x : Refusal). Err x) (start_good (header_of b) rows n q operation key) b h (sym e ∙ f)

pub ruleset starts = (start_refused_lem, start_good_lem)

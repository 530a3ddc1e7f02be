-- What an accepted step answers: it counts one step more, an answer leaves the process idle, and full comes exactly where a swap of 4 or 5 finds no room.
use Prim.Native.Nat.{ℕ, ◌+◌, ◌-◌}
use mathlib.Core.Path.{◌≡◌, refl, sym, ap, subst, ◌∙◌}
use mathlib.Core.Bool.{Bool, true, false, not}
use mathlib.Core.List.{List}
use native.Mathlib.Omega.{arith}
use lib.Dec.{eqb}
use Rattle.std.specs.Prelude.{Ok, Err}
use Rattle.tables.specs.Choice.{pick, both, either}
use Rattle.tables.specs.Layout.{tag_word}
use Rattle.nodes.specs.Pending.{pending_of}
use Rattle.nodes.specs.Keys.{keys_of, holds}
use Rattle.tables.specs.Header.{header_of}
use Rattle.tables.specs.declared.header.Header.{Header}
use Rattle.tables.specs.declared.numbers.Refusal.{Refusal}
use Rattle.nodes.specs.declared.pending.Pending.{Pending}
use Rattle.nodes.specs.declared.pending.Pending.TheVariants.{Clean, Replace, Prune, Mark}
use Rattle.nodes.specs.declared.node.Kin.{Kin}
use Rattle.nodes.specs.declared.node.Kin.TheVariants.{Leaf, Internal}
use Rattle.process.specs.Process.{idle, restarted_of, with_point, with_p_seen, with_l, with_index, with_mask, with_other, with_depth, with_own, descended_of, to_three, to_six, to_nine, to_ten, to_eleven, to_twelve}
use Rattle.process.specs.Answer.{answer, steps_up, going_on, ending_of}
use Rattle.process.specs.declared.Process.{Process}
use Rattle.process.specs.declared.Answer.{Answer}
use Rattle.process.specs.declared.Answer.TheVariants.{No, Yes, Full}
use Rattle.process.specs.declared.Progress.{Progress}
use Rattle.process.specs.declared.Progress.TheVariants.{GoesOn, Ended}
use Rattle.process.specs.declared.Stepped.{Stepped}
use Rattle.draws.specs.Draw.{new_record, room_for, needed_nodes}
use Rattle.help.specs.Touch.{seen_by, succeeds, Row, Out}
use Rattle.help.specs.Help.{helped_l, helped_p, helped_third, top_of, help_ended, helping}
use Rattle.help.specs.Reads.{kin_at}
use Rattle.finish.specs.Rows.{looked_for, look_row, hang_row, unflag_row, row6, row7, row8, row12, row13, row14}
use Rattle.mark.specs.Rows.{touch11, touch9, under_top, notes, other_with, noted, row9, row10, row11}
use Rattle.flag.specs.Rows.{touch4, touch5, room4, row4, row5}
use Rattle.points.specs.Rows.{touch1, touch2, touch3, mask_with, point_after3, scanned3, insert_at, delete_at, find_at, at_leaf, at_child, row1, row2, row3, row_of, no_row}
use Rattle.points.specs.Step.{step_of}
use Rattle.points.proofs.Steps.{each_row}
use Rattle.points.proofs.Accepted.{Accepted, accepted_known, accepted_does}

-- "Full is given at 4 or 5 exactly when the swap would succeed and either no record is left or nodes used plus those needed pass the limit."
abbrev pub flag_point : ℕ → Bool
flag_point point = either (eqb point 4) (eqb point 5)

abbrev pub needed_at : List ℕ → Header → Process → ℕ
needed_at b h q = pick (eqb q.point 4) (needed_nodes h q.operation (tag_word b h q.l)) 0

abbrev pub flags_at : List ℕ → Header → Process → Row → Bool
flags_at b h q row = both (flag_point q.point) (succeeds b h row.touch)

abbrev pub draws_at : List ℕ → Header → Process → Row → Bool
draws_at b h q row = both (flags_at b h q row) (room_for h (needed_at b h q))

abbrev pub full_at : List ℕ → Header → Process → Row → Bool
full_at b h q row = both (flags_at b h q row) (not (room_for h (needed_at b h q)))

abbrev pub is_full : Progress → Bool
is_full GoesOn = false
is_full (Ended No s) = false
is_full (Ended Yes s) = false
is_full (Ended Full s) = true

-- a step that goes on has so many steps in its record; an answer reports them and leaves the process idle
abbrev pub Counts : ℕ → Progress → Process → Type 0
Counts steps GoesOn q = q.steps ≡ steps
Counts steps (Ended a s) q = (s ≡ steps) × (q ≡ idle)

pub record Told (full : Bool) (steps : ℕ) (s : Stepped) : Type 0 where
  pub counts : Counts steps s.progress s.process
  pub full_is : is_full s.progress ≡ full

on : (q : Process) → Told false (steps_up q.steps) (going_on q)
on q = record { counts = refl; full_is = refl }

yes : (q : Process) → Told false (steps_up q.steps) (ending_of q (answer 1))
yes q = record { counts = (refl, refl); full_is = refl }

no : (q : Process) → Told false (steps_up q.steps) (ending_of q (answer 0))
no q = record { counts = (refl, refl); full_is = refl }

full : (q : Process) → Told true (steps_up q.steps) (ending_of q (answer 2))
full q = record { counts = (refl, refl); full_is = refl }

module _ (steps : ℕ) where
  one_of : (f t : Bool) (s u : Stepped) → Told f steps s → Told f steps u → Told f steps (pick t s u)
  unfolding pick
  one_of f true s u a c = a
  one_of f false s u a c = c

  flagged : (m room : Bool) (s f u : Stepped) → Told false steps s → Told true steps f → Told false steps u → Told (both m (not room)) steps (pick m (pick room s f) u)
  unfolding pick both
  flagged true true s f u a c d = a
  flagged true false s f u a c d = c
  flagged false room s f u a c d = d

module _ (top : ℕ) (q : Process) where
  ended : (final : Bool) → Told false (steps_up q.steps) (help_ended final top q)
  unfolding help_ended
  ended final = one_of _ false _ _ _ (one_of _ false _ _ _ (yes q) (on (restarted_of q))) (on (to_ten q top))

  helps : (v : Pending) → Told false (steps_up q.steps) (helping top q v)
  helps (Clean r) = ended false
  helps (Replace r) = on (to_six q r)
  helps (Prune r) = on (to_nine q r)
  helps (Mark r) = on (to_eleven q r)

module _ (q : Process) where
  finds : (held : Bool) → Told false (steps_up q.steps) (find_at q held)
  unfolding pick
  finds true = yes q
  finds false = no q

  inserts : (held : Bool) → Told false (steps_up q.steps) (insert_at q held)
  inserts held = one_of _ false held _ _ (no q) (one_of _ false _ _ _ (on (with_point q 4)) (helps 0 q q.pseen))

  deletes : (held : Bool) → Told false (steps_up q.steps) (delete_at q held)
  deletes held =
      one_of _ false held _ _ (one_of _ false _ _ _ (one_of _ false _ _ _ (on (to_three q)) (helps 0 q q.pseen)) (helps 0 q q.gseen)) (no q)

  at_leaf_lem : (held : Bool) → Told false (steps_up q.steps) (at_leaf q held)
  at_leaf_lem held = one_of _ false _ _ _ (finds held) (one_of _ false _ _ _ (inserts held) (deletes held))

module _ (b : List ℕ) (h : Header) (n : ℕ) (q : Process) where
  at_child_lem : (kin : Kin) → Told false (steps_up q.steps) (at_child b h q kin)
  at_child_lem (Internal child) = on (with_point (descended_of q child) 1)
  at_child_lem (Leaf child count) = at_leaf_lem (with_l q child) (holds q.key (keys_of b h child count))

  scans : (mask : ℕ) → Told false (steps_up q.steps) (scanned3 b h q mask)
  scans mask = one_of _ false _ _ _ (on (with_index (with_mask q mask) (q.index + 1))) (on (with_point (with_mask q mask) (point_after3 b h q mask)))

  looks : (seen target found missed : ℕ) → Told false (steps_up q.steps) (looked_for h q seen target found missed)
  looks seen target found missed =
      one_of _ false _ _ _ (on (with_point q found)) (one_of _ false _ _ _ (on (with_index q (q.index + 1))) (on (with_point q missed)))

  noting : (node : ℕ) → Told false (steps_up q.steps) (noted h q node)
  noting node = one_of _ false _ _ _ (on (with_index (with_other q node) (q.index + 1))) (on (to_twelve (with_other q node)))

  abbrev Tells : Row → Type 0
  Tells row = row.sound ≡ true → Told (full_at b h q row) (steps_up q.steps) row.stepped

  -- a row that is none of 4 and 5 is never full
  other : (point : ℕ) (row : Row) → flag_point point ≡ false → Told false (steps_up q.steps) row.stepped → q.point ≡ point → Tells row
  unfolding both
  other point row e t f s = rw (f, e) t

  flags : (room : Bool) (row : Row) → flag_point q.point ≡ true → room_for h (needed_at b h q) ≡ room →
      Told (both (succeeds b h row.touch) (not room)) (steps_up q.steps) row.stepped → Tells row
  unfolding both
  flags room row e f t s = rw (e, f) t

  four : q.point ≡ 4 → Tells (row4 b h n q)
  unfolding pick row4
  four e =
      flags (room4 b h q) (row4 b h n q) (rw e) (rw e)
      (flagged _ _ (room4 b h q) _ _ _ (on (to_six (with_own q (new_record h)) (new_record h))) (full q) (helps (top_of b h n q) q (pending_of (seen_by b h (touch4 h q)))))

  five : q.point ≡ 5 → Tells (row5 b h n q)
  unfolding pick row5
  five e =
      flags (room_for h 0) (row5 b h n q) (rw e) (rw e)
      (flagged _ _ (room_for h 0) _ _ _ (on (to_nine (with_own q (new_record h)) (new_record h))) (full q) (helps (top_of b h n q) q (pending_of (seen_by b h (touch5 h q)))))

  nine : Told false (steps_up q.steps) (row9 b h n q).stepped
  unfolding row9
  nine = one_of _ false _ _ _ (on (to_eleven q q.helped)) (helps q.helped (with_depth q (q.depth + 1)) (pending_of (seen_by b h (touch9 b h q))))

  looking : (parent target found missed : ℕ) → Told false (steps_up q.steps) (look_row b h q parent target found missed).stepped
  unfolding look_row
  looking parent target found missed = looks _ target found missed

  hanging : (parent from to next : ℕ) → Told false (steps_up q.steps) (hang_row b h q parent from to next).stepped
  unfolding hang_row
  hanging parent from to next = on (with_point q next)

  unflagging : (node kind : ℕ) → Told false (steps_up q.steps) (unflag_row b h n q node kind).stepped
  unfolding unflag_row
  unflagging node kind = ended (top_of b h n q) q true

  pub row_tells : Tells (row_of b h n q)
  unfolding pick row1 row2 row3 row6 row7 row8 row10 row11 row12 row13 row14 no_row
  row_tells =
      each_row Tells b h n q
      (other 1 (row1 b h q) refl (on (with_point (with_p_seen q (pending_of (seen_by b h (touch1 h q)))) 2)))
      (other 2 (row2 b h q) refl (at_child_lem (kin_at b h (seen_by b h (touch2 b h q)))))
      (other 3 (row3 b h q) refl (scans (mask_with q (kin_at b h (seen_by b h (touch3 h q))))))
      four
      five
      (other 6 (row6 b h q) refl (looking (helped_p b h q) (helped_l b h q) 7 8))
      (other 7 (row7 b h q) refl (hanging (helped_p b h q) (helped_l b h q) (helped_third b h q) 8))
      (other 8 (row8 b h n q) refl (unflagging (helped_p b h q) 1))
      (other 9 (row9 b h n q) refl nine)
      (other 10 (row10 b h n q) refl (ended (under_top b h n q) (with_depth q (q.depth - 1)) false))
      (other 11 (row11 b h q) refl (noting (other_with q (seen_by b h (touch11 b h q)) (notes b h q (seen_by b h (touch11 b h q))))))
      (other 12 (row12 b h q) refl (looking (helped_third b h q) (helped_p b h q) 13 14))
      (other 13 (row13 b h q) refl (hanging (helped_third b h q) (helped_p b h q) q.other 14))
      (other 14 (row14 b h n q) refl (unflagging (helped_third b h q) 2))
      (λ e. let z : ◌≡◌ {A = ℕ} 0 1 = cc in absurd (omega arith))

-- The theorems, of every accepted step: "adds 1 to steps", "An answer leaves the process idle and reports the steps", and when it is full.
module _ (b : List ℕ) (rows n : ℕ) (q : Process) (a : Accepted b rows n q) where
  it_does : (step_of b rows n q).stepped ≡ Ok (row_of b (header_of b) n q).stepped
  it_does = ap (λ (o : Out). o.stepped) (accepted_does b rows n q a)

  pub never_refused : (e : Refusal) → (step_of b rows n q).stepped ≡ Err e → ⊥
  never_refused e f = let x = sym it_does ∙ f in let z : ◌≡◌ {A = ℕ} 0 1 = cc in omega arith

  module _ (said : Stepped) (e : (step_of b rows n q).stepped ≡ Ok said) where
    is_row : (row_of b (header_of b) n q).stepped ≡ said
    is_row = let x = sym it_does ∙ e in cc

    pub step_tells : Told (full_at b (header_of b) q (row_of b (header_of b) n q)) (steps_up q.steps) said
    step_tells =
        subst (λ (s : Stepped). Told (full_at b (header_of b) q (row_of b (header_of b) n q)) (steps_up q.steps) s) is_row
        (row_tells b (header_of b) n q (accepted_known b rows n q a).sound)

    pub goes_on_counts : said.progress ≡ GoesOn → said.process.steps ≡ steps_up q.steps
    goes_on_counts f = subst (λ (s : Progress). Counts (steps_up q.steps) s said.process) f step_tells.counts

    pub ended_counts : (r : Answer) (s : ℕ) → said.progress ≡ Ended r s → (s ≡ steps_up q.steps) × (said.process ≡ idle)
    ended_counts r s f = subst (λ (x : Progress). Counts (steps_up q.steps) x said.process) f step_tells.counts

    pub full_exactly : is_full said.progress ≡ full_at b (header_of b) q (row_of b (header_of b) n q)
    full_exactly = step_tells.full_is

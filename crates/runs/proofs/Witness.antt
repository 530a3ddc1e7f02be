-- Demand 3 at runs (j), (c) and (g): their answers and swaps are computed, what they mean is the demand's.
use Prim.Native.Nat.{ℕ, zero, suc}
use mathlib.Core.Path.{◌≡◌, refl, sym, ap, ◌∙◌, subst}
use mathlib.Core.Logic.{◌≢◌}
use mathlib.Core.List.{List, [], ◌∷◌, ◌++◌}
use native.Mathlib.Omega.{arith}
use lib.Count.{ones}
use lib.ListN.{replicate}
use Rattle.tables.specs.Choice.{pick, both, listed}
use Rattle.tables.specs.Numbers.{numbers_good}
use Rattle.tables.specs.Layout.{child_word}
use Rattle.tables.specs.Header.{header_good}
use Rattle.nodes.specs.Keys.{first_at, rises, holds}
use Rattle.damage.specs.Fields.{process_good, numbers_good as fields_good, nodes_good, records_good, uses_good}
use Rattle.damage.specs.Helped.{helped_good, record_good}
use Rattle.draws.specs.Draw.{leaves_from, committed, replace_drawn, prune_drawn}
use Rattle.help.specs.Help.{help_ended, helped_l, helped_p, helped_third}
use Rattle.finish.specs.Rows.{row6, row7, row8, row12, row13, row14, look_row, hang_row, unflag_row}
use Rattle.mark.specs.Rows.{row9, row10, row11}
use Rattle.flag.specs.Rows.{row4, row5}
use Rattle.points.specs.Rows.{row1, row2, row3, row_of, no_row}
use Rattle.meter.specs.Walk.{in_order, walk_of}
use Rattle.walk.specs.Calls.{keys_met}
use Rattle.process.specs.Process.{idle}
use Rattle.process.specs.declared.Answer.TheVariants.{No, Yes, Full}
use Rattle.make.specs.Make.{make_call}
use Rattle.index.specs.Calls.{start_call, step_call}
use Rattle.history.specs.View.{In}
use Rattle.history.specs.Effects.{Added, Removed}
use Rattle.link.specs.Events.{Event, start, step, State, taken, AllProper, empty, also, event_at, state_at, block_at, header_at, since_at}
use Rattle.link.specs.Swaps.{Swapping, ChildSwap, seven, thirteen}
use Rattle.link.specs.Operations.{Started, BusyWith, OperationOf, Answered}
use Rattle.link.specs.Sets.{InSet}
use Rattle.link.proofs.Reached.{step_one}
use Rattle.claim.specs.Claim.{SwapOf, Changes, put_in, taken_out}
use Rattle.claim.specs.Kept.{Demand}
use Rattle.claim.proofs.Operations.{start_same}
use Rattle.claim.proofs.Made.{demand_3}
use Rattle.runs.specs.Run.{steps}
use Rattle.runs.specs.Table.{run_c, run_g, run_j}
use Rattle.runs.specs.Witness.{Helped, SaysNo, SaysFull, Witness}

-- starts of keys that are words, and steps
all_steps : (n times : ℕ) → AllProper (steps n times)
all_steps n zero = empty
all_steps n (suc times) = also {e = step n} (omega arith) (all_steps n times)

then_steps : (n times : ℕ) (es : List Event) → AllProper es → AllProper (steps n times ++ es)
then_steps n zero es p = p
then_steps n (suc times) es p = also {e = step n} (omega arith) (then_steps n times es p)

not_zero : (x n : ℕ) → x ≡ suc n → x ≢ 0
not_zero x n e z = omega arith

-- the swap of an insert adds its key, that of a delete removes it
module _ {s : State} {es : List Event} (demand : Demand s es) (m i n x : ℕ) (w : SwapOf s es m i) where
  its : (j n' o o' y : ℕ) → OperationOf s es w.r j → event_at es i ≡ start n o x → event_at es j ≡ start n' o' y → (n' ≡ n) × (o' ≡ o) × (y ≡ x)
  its j n' o o' y a e f = start_same n' n o' o y x (sym f ∙ ap (event_at es) (demand.claim.one_operation w.r j i a w.operation) ∙ e)

  adds : event_at es i ≡ start n 2 x → Added (InSet s es m) (InSet s es (suc m)) x
  adds e = go (demand.claim.set_changes m w.r w.swap).1 (demand.claim.set_changes m w.r w.swap).2
    where
      go : {j : ℕ} → OperationOf s es w.r j → Changes s es m j → Added (InSet s es m) (InSet s es (suc m)) x
      go {j} o (put_in n' y st a) = subst (λ (z : ℕ). Added (InSet s es m) (InSet s es (suc m)) z) (its j n' 2 2 y o e st.event).2 a
      go {j} o (taken_out n' y st a) = absurd (omega (arith, (its j n' 2 3 y o e st.event).1))

  removes : event_at es i ≡ start n 3 x → Removed (InSet s es m) (InSet s es (suc m)) x
  removes e = go (demand.claim.set_changes m w.r w.swap).1 (demand.claim.set_changes m w.r w.swap).2
    where
      go : {j : ℕ} → OperationOf s es w.r j → Changes s es m j → Removed (InSet s es m) (InSet s es (suc m)) x
      go {j} o (put_in n' y st a) = absurd (omega (arith, (its j n' 3 2 y o e st.event).1))
      go {j} o (taken_out n' y st a) = subst (λ (z : ℕ). Removed (InSet s es m) (InSet s es (suc m)) z) (its j n' 3 3 y o e st.event).2 a

-- a record of an operation that is swapped for another record is never swapped itself
never_too : {s : State} {es : List Event} → Demand s es → (m i n r : ℕ) (w : SwapOf s es m i) → event_at es m ≡ step n → OperationOf s es r i → r ≢ w.r → (t : ℕ) → ¬ ChildSwap s es t r
never_too {s} {es} demand m i n r w e o d t c = d (sym c.helps ∙ ap (λ (x : ℕ). (taken (state_at s es x) c.process).helped) same ∙ ap (λ (x : ℕ). (taken (state_at s es m) x).helped) who ∙ w.swap.helps)
  where
    same : t ≡ m
    same = demand.claim.once t m i (record { r = r; swap = c; operation = o }) w

    who : c.process ≡ w.swap.process
    who = step_one c.process w.swap.process (sym c.event ∙ ap (event_at es) same ∙ w.swap.event)

-- (j)
abbrev s_j : State
s_j = run_j.begin

abbrev es_j : List Event
es_j = run_j.events

demand_j : Demand s_j es_j
unfolding pick both listed numbers_good header_good first_at rises holds process_good fields_good nodes_good records_good uses_good helped_good record_good leaves_from committed replace_drawn prune_drawn help_ended row1 row2 row3 row4 row5 row6 row7 row8 row9 row10 row11 row12 row13 row14 row_of no_row look_row hang_row unflag_row in_order walk_of start_call step_call make_call state_at ones
demand_j = demand_3 (replicate 160 0) (replicate 2 idle) 2 2 16 8 proper refl
  where
    proper : AllProper es_j
    proper =
        also {e = start 1 2 3} (omega arith) (then_steps 1 8 _ (also {e = start 1 2 5} (omega arith) (then_steps 1 8 _ (also {e = start 1 3 3} (omega arith) (then_steps 1 9 _
        (also {e = start 2 2 4} (omega arith) (then_steps 2 7 _ (then_steps 1 22 _ (all_steps 2 3)))))))))

-- the process that steps at 38 and 56, and what it helps there
helps_38 : (taken (state_at s_j es_j 38) 1).helped ≡ 4
unfolding pick both listed numbers_good header_good first_at rises holds process_good fields_good nodes_good records_good uses_good helped_good record_good leaves_from committed replace_drawn prune_drawn help_ended row1 row2 row3 row4 row5 row6 row7 row8 row9 row10 row11 row12 row13 row14 row_of no_row look_row hang_row unflag_row in_order walk_of start_call step_call make_call state_at since_at ones
helps_38 = refl

busy_38 : (taken (state_at s_j es_j 38) 1).operation ≡ 3
unfolding pick both listed numbers_good header_good first_at rises holds process_good fields_good nodes_good records_good uses_good helped_good record_good leaves_from committed replace_drawn prune_drawn help_ended row1 row2 row3 row4 row5 row6 row7 row8 row9 row10 row11 row12 row13 row14 row_of no_row look_row hang_row unflag_row in_order walk_of start_call step_call make_call state_at since_at ones
busy_38 = refl

point_38 : (taken (state_at s_j es_j 38) 1).point ≡ 7
unfolding pick both listed numbers_good header_good first_at rises holds process_good fields_good nodes_good records_good uses_good helped_good record_good leaves_from committed replace_drawn prune_drawn help_ended row1 row2 row3 row4 row5 row6 row7 row8 row9 row10 row11 row12 row13 row14 row_of no_row look_row hang_row unflag_row in_order walk_of start_call step_call make_call state_at since_at ones
point_38 = refl

index_38 : (taken (state_at s_j es_j 38) 1).index ≡ 1
unfolding pick both listed numbers_good header_good first_at rises holds process_good fields_good nodes_good records_good uses_good helped_good record_good leaves_from committed replace_drawn prune_drawn help_ended row1 row2 row3 row4 row5 row6 row7 row8 row9 row10 row11 row12 row13 row14 row_of no_row look_row hang_row unflag_row in_order walk_of start_call step_call make_call state_at since_at ones
index_38 = refl

parent_38 : helped_p (block_at s_j es_j 38) (header_at s_j es_j 38) (taken (state_at s_j es_j 38) 1) ≡ 7
unfolding pick both listed numbers_good header_good first_at rises holds process_good fields_good nodes_good records_good uses_good helped_good record_good leaves_from committed replace_drawn prune_drawn help_ended row1 row2 row3 row4 row5 row6 row7 row8 row9 row10 row11 row12 row13 row14 row_of no_row look_row hang_row unflag_row in_order walk_of start_call step_call make_call state_at since_at ones
parent_38 = refl

child_38 : child_word (block_at s_j es_j 38) (header_at s_j es_j 38) 7 1 ≡ 8
unfolding pick both listed numbers_good header_good first_at rises holds process_good fields_good nodes_good records_good uses_good helped_good record_good leaves_from committed replace_drawn prune_drawn help_ended row1 row2 row3 row4 row5 row6 row7 row8 row9 row10 row11 row12 row13 row14 row_of no_row look_row hang_row unflag_row in_order walk_of start_call step_call make_call state_at since_at ones
child_38 = refl

target_38 : helped_l (block_at s_j es_j 38) (header_at s_j es_j 38) (taken (state_at s_j es_j 38) 1) ≡ 8
unfolding pick both listed numbers_good header_good first_at rises holds process_good fields_good nodes_good records_good uses_good helped_good record_good leaves_from committed replace_drawn prune_drawn help_ended row1 row2 row3 row4 row5 row6 row7 row8 row9 row10 row11 row12 row13 row14 row_of no_row look_row hang_row unflag_row in_order walk_of start_call step_call make_call state_at since_at ones
target_38 = refl

swaps_38 : Swapping (block_at s_j es_j 38) (header_at s_j es_j 38) (taken (state_at s_j es_j 38) 1)
swaps_38 =
    seven point_38 (ap (λ (x : ℕ). child_word (block_at s_j es_j 38) (header_at s_j es_j 38) x (taken (state_at s_j es_j 38) 1).index) parent_38 ∙ ap (child_word (block_at s_j es_j 38) (header_at s_j es_j 38) 7) index_38 ∙ child_38 ∙ sym target_38)

helps_56 : (taken (state_at s_j es_j 56) 1).helped ≡ 5
unfolding pick both listed numbers_good header_good first_at rises holds process_good fields_good nodes_good records_good uses_good helped_good record_good leaves_from committed replace_drawn prune_drawn help_ended row1 row2 row3 row4 row5 row6 row7 row8 row9 row10 row11 row12 row13 row14 row_of no_row look_row hang_row unflag_row in_order walk_of start_call step_call make_call state_at since_at ones
helps_56 = refl

busy_56 : (taken (state_at s_j es_j 56) 1).operation ≡ 3
unfolding pick both listed numbers_good header_good first_at rises holds process_good fields_good nodes_good records_good uses_good helped_good record_good leaves_from committed replace_drawn prune_drawn help_ended row1 row2 row3 row4 row5 row6 row7 row8 row9 row10 row11 row12 row13 row14 row_of no_row look_row hang_row unflag_row in_order walk_of start_call step_call make_call state_at since_at ones
busy_56 = refl

point_56 : (taken (state_at s_j es_j 56) 1).point ≡ 13
unfolding pick both listed numbers_good header_good first_at rises holds process_good fields_good nodes_good records_good uses_good helped_good record_good leaves_from committed replace_drawn prune_drawn help_ended row1 row2 row3 row4 row5 row6 row7 row8 row9 row10 row11 row12 row13 row14 row_of no_row look_row hang_row unflag_row in_order walk_of start_call step_call make_call state_at since_at ones
point_56 = refl

index_56 : (taken (state_at s_j es_j 56) 1).index ≡ 1
unfolding pick both listed numbers_good header_good first_at rises holds process_good fields_good nodes_good records_good uses_good helped_good record_good leaves_from committed replace_drawn prune_drawn help_ended row1 row2 row3 row4 row5 row6 row7 row8 row9 row10 row11 row12 row13 row14 row_of no_row look_row hang_row unflag_row in_order walk_of start_call step_call make_call state_at since_at ones
index_56 = refl

parent_56 : helped_third (block_at s_j es_j 56) (header_at s_j es_j 56) (taken (state_at s_j es_j 56) 1) ≡ 7
unfolding pick both listed numbers_good header_good first_at rises holds process_good fields_good nodes_good records_good uses_good helped_good record_good leaves_from committed replace_drawn prune_drawn help_ended row1 row2 row3 row4 row5 row6 row7 row8 row9 row10 row11 row12 row13 row14 row_of no_row look_row hang_row unflag_row in_order walk_of start_call step_call make_call state_at since_at ones
parent_56 = refl

child_56 : child_word (block_at s_j es_j 56) (header_at s_j es_j 56) 7 1 ≡ 10
unfolding pick both listed numbers_good header_good first_at rises holds process_good fields_good nodes_good records_good uses_good helped_good record_good leaves_from committed replace_drawn prune_drawn help_ended row1 row2 row3 row4 row5 row6 row7 row8 row9 row10 row11 row12 row13 row14 row_of no_row look_row hang_row unflag_row in_order walk_of start_call step_call make_call state_at since_at ones
child_56 = refl

target_56 : helped_p (block_at s_j es_j 56) (header_at s_j es_j 56) (taken (state_at s_j es_j 56) 1) ≡ 10
unfolding pick both listed numbers_good header_good first_at rises holds process_good fields_good nodes_good records_good uses_good helped_good record_good leaves_from committed replace_drawn prune_drawn help_ended row1 row2 row3 row4 row5 row6 row7 row8 row9 row10 row11 row12 row13 row14 row_of no_row look_row hang_row unflag_row in_order walk_of start_call step_call make_call state_at since_at ones
target_56 = refl

swaps_56 : Swapping (block_at s_j es_j 56) (header_at s_j es_j 56) (taken (state_at s_j es_j 56) 1)
swaps_56 =
    thirteen point_56 (ap (λ (x : ℕ). child_word (block_at s_j es_j 56) (header_at s_j es_j 56) x (taken (state_at s_j es_j 56) 1).index) parent_56 ∙ ap (child_word (block_at s_j es_j 56) (header_at s_j es_j 56) 7) index_56 ∙ child_56 ∙ sym target_56)

exists : (m : ℕ) → (header_at s_j es_j m).processes ≡ 2 → In (header_at s_j es_j m).processes 1
exists m e = record { low = omega arith; high = omega arith }

two : (m : ℕ) → (header_at s_j es_j m).processes ≡ 2
unfolding pick both listed numbers_good header_good first_at rises holds process_good fields_good nodes_good records_good uses_good helped_good record_good leaves_from committed replace_drawn prune_drawn help_ended row1 row2 row3 row4 row5 row6 row7 row8 row9 row10 row11 row12 row13 row14 row_of no_row look_row hang_row unflag_row in_order walk_of start_call step_call make_call state_at ones
two m = (demand_j.claim.limits m).processes_same

inserts : OperationOf s_j es_j 4 28
unfolding pick both listed numbers_good header_good first_at rises holds process_good fields_good nodes_good records_good uses_good helped_good record_good leaves_from committed replace_drawn prune_drawn help_ended row1 row2 row3 row4 row5 row6 row7 row8 row9 row10 row11 row12 row13 row14 row_of no_row look_row hang_row unflag_row in_order walk_of start_call step_call make_call state_at since_at ones
inserts = record { when = 35; process = 2; draws = record { event = refl; next = refl; counted = refl }; busy = record { last = refl; busy = not_zero _ 1 refl } }

insert_swaps : SwapOf s_j es_j 38 28
insert_swaps = record {
  r = 4;
  swap = record { process = 1; event = refl; exists = exists 38 (two 38); busy = λ e. omega (arith, busy_38, e); helps = helps_38; swapping = swaps_38 };
  operation = inserts;
}

deletes : OperationOf s_j es_j 5 18
unfolding pick both listed numbers_good header_good first_at rises holds process_good fields_good nodes_good records_good uses_good helped_good record_good leaves_from committed replace_drawn prune_drawn help_ended row1 row2 row3 row4 row5 row6 row7 row8 row9 row10 row11 row12 row13 row14 row_of no_row look_row hang_row unflag_row in_order walk_of start_call step_call make_call state_at since_at ones
deletes = record { when = 51; process = 1; draws = record { event = refl; next = refl; counted = refl }; busy = record { last = refl; busy = not_zero _ 2 refl } }

delete_swaps : SwapOf s_j es_j 56 18
delete_swaps = record {
  r = 5;
  swap = record { process = 1; event = refl; exists = exists 56 (two 56); busy = λ e. omega (arith, busy_56, e); helps = helps_56; swapping = swaps_56 };
  operation = deletes;
}

failed : OperationOf s_j es_j 3 18
unfolding pick both listed numbers_good header_good first_at rises holds process_good fields_good nodes_good records_good uses_good helped_good record_good leaves_from committed replace_drawn prune_drawn help_ended row1 row2 row3 row4 row5 row6 row7 row8 row9 row10 row11 row12 row13 row14 row_of no_row look_row hang_row unflag_row in_order walk_of start_call step_call make_call state_at since_at ones
failed = record { when = 27; process = 1; draws = record { event = refl; next = refl; counted = refl }; busy = record { last = refl; busy = not_zero _ 2 refl } }

delete_answered : Answered s_j es_j 57 1 Yes 31
unfolding pick both listed numbers_good header_good first_at rises holds process_good fields_good nodes_good records_good uses_good helped_good record_good leaves_from committed replace_drawn prune_drawn help_ended row1 row2 row3 row4 row5 row6 row7 row8 row9 row10 row11 row12 row13 row14 row_of no_row look_row hang_row unflag_row in_order walk_of start_call step_call make_call state_at since_at ones
delete_answered = record { event = refl; answer = refl }

insert_answered : Answered s_j es_j 60 2 Yes 10
unfolding pick both listed numbers_good header_good first_at rises holds process_good fields_good nodes_good records_good uses_good helped_good record_good leaves_from committed replace_drawn prune_drawn help_ended row1 row2 row3 row4 row5 row6 row7 row8 row9 row10 row11 row12 row13 row14 row_of no_row look_row hang_row unflag_row in_order walk_of start_call step_call make_call state_at since_at ones
insert_answered = record { event = refl; answer = refl }

before : keys_met (block_at s_j es_j 38) ≡ 3 ∷ 5 ∷ []
unfolding pick both listed numbers_good header_good first_at rises holds process_good fields_good nodes_good records_good uses_good helped_good record_good leaves_from committed replace_drawn prune_drawn help_ended row1 row2 row3 row4 row5 row6 row7 row8 row9 row10 row11 row12 row13 row14 row_of no_row look_row hang_row unflag_row in_order walk_of start_call step_call make_call state_at since_at ones
before = refl

after : keys_met (block_at s_j es_j 57) ≡ 4 ∷ 5 ∷ []
unfolding pick both listed numbers_good header_good first_at rises holds process_good fields_good nodes_good records_good uses_good helped_good record_good leaves_from committed replace_drawn prune_drawn help_ended row1 row2 row3 row4 row5 row6 row7 row8 row9 row10 row11 row12 row13 row14 row_of no_row look_row hang_row unflag_row in_order walk_of start_call step_call make_call state_at since_at ones
after = refl

helped : Helped s_j es_j
unfolding insert_swaps inserts delete_swaps
helped = record {
  demand = demand_j;
  delete_answered = delete_answered;
  insert_answered = insert_answered;
  insert_swaps = insert_swaps;
  helper = refl;
  drawer = refl;
  before = before;
  put_in = adds demand_j 38 28 2 4 insert_swaps refl;
  failed = failed;
  never = never_too demand_j 56 18 1 3 delete_swaps refl failed (λ e. omega arith);
  delete_swaps = delete_swaps;
  pruned = refl;
  taken_out = removes demand_j 56 18 1 3 delete_swaps refl;
  after = after;
}

-- (c)
says_no : SaysNo run_c.begin run_c.events
unfolding pick both listed numbers_good header_good first_at rises holds process_good fields_good nodes_good records_good uses_good helped_good record_good leaves_from committed replace_drawn prune_drawn help_ended row1 row2 row3 row4 row5 row6 row7 row8 row9 row10 row11 row12 row13 row14 row_of no_row look_row hang_row unflag_row in_order walk_of start_call step_call make_call state_at since_at ones
says_no = record {
  demand = demand;
  answered = answered;
  never = demand.claim.no_or_full 9 13 1 2 3 4 No started busy answered (λ e. omega arith) (λ e. let z : ◌≡◌ {A = ℕ} 0 1 = cc in omega arith);
  there = demand.claim.insert_no 9 13 1 3 4 started busy answered;
}
  where
    demand : Demand run_c.begin run_c.events
    demand =
        demand_3 (replicate 160 0) (replicate 1 idle) 2 1 16 8
        (also {e = start 1 2 3} (omega arith) (then_steps 1 8 _ (also {e = start 1 2 3} (omega arith) (all_steps 1 4)))) refl

    started : Started run_c.begin run_c.events 9 1 2 3
    started = record { event = refl; accepted = refl }

    busy : BusyWith run_c.begin run_c.events 13 1 9
    busy = record { last = refl; busy = not_zero _ 1 refl }

    answered : Answered run_c.begin run_c.events 13 1 No 4
    answered = record { event = refl; answer = refl }

-- (g)
says_full : SaysFull run_g.begin run_g.events
unfolding pick both listed numbers_good header_good first_at rises holds process_good fields_good nodes_good records_good uses_good helped_good record_good leaves_from committed replace_drawn prune_drawn help_ended row1 row2 row3 row4 row5 row6 row7 row8 row9 row10 row11 row12 row13 row14 row_of no_row look_row hang_row unflag_row in_order walk_of start_call step_call make_call state_at since_at ones
says_full = record {
  demand = demand;
  answered = answered;
  never = demand.claim.no_or_full 0 5 1 2 3 5 Full started busy answered (λ e. omega arith) (λ e. let z : ◌≡◌ {A = ℕ} 0 1 = cc in omega arith);
}
  where
    demand : Demand run_g.begin run_g.events
    demand = demand_3 (replicate 160 0) (replicate 1 idle) 2 1 5 8 (also {e = start 1 2 3} (omega arith) (all_steps 1 5)) refl

    started : Started run_g.begin run_g.events 0 1 2 3
    started = record { event = refl; accepted = refl }

    busy : BusyWith run_g.begin run_g.events 5 1 0
    busy = record { last = refl; busy = not_zero _ 1 refl }

    answered : Answered run_g.begin run_g.events 5 1 Full 5
    answered = record { event = refl; answer = refl }

pub witness : Witness
witness = record { helped = helped; says_no = says_no; says_full = says_full }

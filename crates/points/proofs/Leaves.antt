-- What each row touches and leaves: a child word or the pending word of a node in use; the block as its touch leaves it, a stack word, a draw.
use Prim.Native.Nat.{ℕ, ◌*◌, ◌-◌, ◌≤◌, ◌<◌}
use mathlib.Core.Path.{◌≡◌, refl, sym, ◌∙◌}
use mathlib.Core.Bool.{Bool, true, false, not}
use mathlib.Core.List.{List}
use native.Mathlib.Omega.{arith}
use lib.Dec.{ltb, leb, eqb}
use lib.ListN.{length, set}
use borrow.Author.Tests.{leb-true, ltb-true, eqb-false, eq-eqb, le-ltb, lt-leb, not-true}
use Rattle.std.specs.Prelude.{Option, None}
use Rattle.tables.specs.Choice.{pick, both, either}
use Rattle.tables.specs.Layout.{depth_of, stack_at, tag_word, child_place, pending_place}
use Rattle.tables.specs.Place.{Place, in_node}
use Rattle.nodes.specs.Pending.{word_of}
use Rattle.nodes.specs.Node.{kin_of, node_good, is_internal}
use Rattle.nodes.specs.Keys.{keys_of, route_of}
use Rattle.tables.specs.declared.header.Header.{Header}
use Rattle.nodes.specs.declared.node.Kin.{Kin}
use Rattle.tables.proofs.Picks.{both_1, both_2, pick_true, pick_false, within_low, within_high}
use Rattle.tables.proofs.Lists.{length-listed}
use Rattle.nodes.proofs.Keyed.{first_in}
use Rattle.process.specs.declared.Process.{Process}
use Rattle.damage.specs.Fields.{numbers_good, nodes_good, uses_good, process_good}
use Rattle.damage.specs.Helped.{kind_at, places_good, record_good, helped_good}
use Rattle.draws.specs.Draw.{room_for, replace_drawn, prune_drawn}
use Rattle.help.specs.Touch.{Touch, reads, swaps, touched_node, touched_word, succeeds, touched, Row}
use Rattle.help.specs.Help.{helped_p, helped_third}
use Rattle.finish.specs.Rows.{look_row, hang_row, unflag_row, row6, row7, row8, row12, row13, row14}
use Rattle.mark.specs.Rows.{touch9, marked, row9, row10, row11}
use Rattle.flag.specs.Rows.{job_of, touch4, touch5, row4, row5}
use Rattle.points.specs.Rows.{row1, row2, row3, row_of, no_row}
use Rattle.points.proofs.Steps.{each_row}
use Rattle.points.proofs.Accepted.{Known}
use Rattle.points.proofs.Counted.{flag_point, needed_at, flags_at, draws_at, full_at}

-- a shared word: a child word or the pending word of a node in use
pub record Shared (h : Header) (node offset : ℕ) : Type 0 where
  pub from_one : 1 ≤ node
  pub to_used : node ≤ h.nodesused
  pub from_children : h.k ≤ offset
  pub to_pending : offset ≤ 2 * h.k

abbrev pub place_of : Touch → Place
place_of t = in_node (touched_node t) (touched_word t)

-- the stack word that 9 and 10 set: a push's, a pop's
abbrev pub stack_point : ℕ → Bool
stack_point point = either (eqb point 9) (eqb point 10)

abbrev pub own_word : Process → ℕ
own_word q = pick (eqb q.point 9) q.depth (q.depth - 1)

-- a node in use
pub record Used (h : Header) (node : ℕ) : Type 0 where
  pub from_one : 1 ≤ node
  pub to_used : node ≤ h.nodesused

-- what a sound row leaves of the block: its touch; at 9 and 10 a stack word too; a draw for the flag of 4 or of 5; nothing where that is full
pub data Leaves (b : List ℕ) (h : Header) (n : ℕ) (q : Process) (row : Row) : Type 0 where
  by_touch : flags_at b h q row ≡ false → row.block ≡ touched b h row.touch → Leaves b h n q row
  by_stack : (v : ℕ) → flags_at b h q row ≡ false → stack_point q.point ≡ true → own_word q < depth_of h →
      row.block ≡ set (touched b h row.touch) (stack_at h n (own_word q)) v → Leaves b h n q row
  by_replace : q.point ≡ 4 → draws_at b h q row ≡ true → Used h q.p → row.touch ≡ touch4 h q →
      row.block ≡ replace_drawn b h (job_of n q) (tag_word b h q.l) → Leaves b h n q row
  by_prune : q.point ≡ 5 → draws_at b h q row ≡ true → Used h q.gp → row.touch ≡ touch5 h q →
      row.block ≡ prune_drawn b h (job_of n q) q.gp (word_of q.pseen) → Leaves b h n q row
  by_none : full_at b h q row ≡ true → row.block ≡ b → Leaves b h n q row

internal_used : (b : List ℕ) (h : Header) (node : ℕ) → is_internal (kin_of b h node) ≡ true → Used h node
unfolding pick
internal_used b h node e =
    let g : node_good b h node ≡ true = go (node_good b h node) _ e in
    record { from_one = within_low 1 node _ (both_1 _ _ g); to_used = within_high 1 node _ (both_1 _ _ g) }
  where
    go : (t : Bool) (c : Option Kin) → is_internal (pick t c None) ≡ true → t ≡ true
    go true c e = refl
    go false c e = e

module _ (h : Header) (node : ℕ) (u : Used h node) where
  pending_shared : Shared h node (pending_place h.k)
  pending_shared = record { from_one = u.from_one; to_used = u.to_used; from_children = omega arith; to_pending = omega arith }

  child_shared : (i : ℕ) → i ≤ h.k → Shared h node (child_place h.k i)
  child_shared i p = record { from_one = u.from_one; to_used = u.to_used; from_children = omega arith; to_pending = omega arith }

route_small : (b : List ℕ) (h : Header) (node x : ℕ) → 2 ≤ h.k → route_of b h node x ≤ h.k
route_small b h node x p =
    let z : length (keys_of b h node (h.k - 1)) ≡ h.k - 1 = length-listed _ 1 (h.k - 1) in
    omega (arith, first_in (λ y. ltb x y) (keys_of b h node (h.k - 1)))

module _ (b : List ℕ) (h : Header) (n : ℕ) (q : Process) (known : Known b h n q) where
  numbers : numbers_good h q ≡ true
  unfolding process_good
  numbers = both_1 _ _ known.fields

  nodes : nodes_good b h q ≡ true
  unfolding process_good
  nodes = both_1 _ _ (both_2 _ _ known.fields)

  index_high : q.index ≤ h.k
  unfolding numbers_good
  index_high = leb-true _ _ (both_1 _ _ (both_2 _ _ (both_2 _ _ (both_2 _ _ numbers))))

  p_used : Used h q.p
  unfolding nodes_good
  p_used = internal_used b h q.p (both_1 _ _ nodes)

  -- "gp at 5"
  gp_given : q.point ≡ 5 → not (eqb q.gp 0) ≡ true
  unfolding process_good uses_good
  gp_given e = sym (pick_true _ _ true (eq-eqb q.point 5 e)) ∙ both_1 _ _ (both_2 _ _ (both_2 _ _ (both_2 _ _ (both_2 _ _ known.fields))))

  gp_used : q.point ≡ 5 → Used h q.gp
  unfolding nodes_good
  gp_used e = internal_used b h q.gp (sym (pick_false (eqb q.gp 0) true _ (not-true _ (gp_given e))) ∙ both_1 _ _ (both_2 _ _ nodes))

  -- the record helped, from 6 on
  of_record : 6 ≤ q.point → places_good b h (kind_at q.point) q.helped ≡ true
  unfolding helped_good record_good
  of_record p = both_1 _ _ (both_2 _ _ (both_2 _ _ (sym (pick_false (ltb q.point 6) true _ (le-ltb q.point 6 p)) ∙ known.helped)))

  helped_p_lem : 6 ≤ q.point → Used h (helped_p b h q)
  helped_p_lem p = internal_used b h (helped_p b h q) (both_1 _ _ (of_record p))

  helped_third_lem : 9 ≤ q.point → Used h (helped_third b h q)
  unfolding pick
  helped_third_lem p =
      let z : kind_at q.point ≡ 2 = pick_false (leb q.point 8) 1 2 (lt-leb q.point 8 p) in
      internal_used b h (helped_third b h q) (rw z at (both_2 _ _ (both_2 _ _ (of_record (omega arith)))))

  -- every row touches a shared word
  abbrev pub Shares : Row → Type 0
  Shares row = row.sound ≡ true → Shared h (touched_node row.touch) (touched_word row.touch)

  pub row_shares : Shares (row_of b h n q)
  unfolding row1 row2 row3 row4 row5 row6 row7 row8 row9 row10 row11 row12 row13 row14 no_row look_row hang_row unflag_row
  row_shares =
      each_row Shares b h n q
      (λ e s. pending_shared h q.p p_used)
      (λ e s. child_shared h q.p p_used _ (route_small b h q.p q.key (omega (arith, known.limited))))
      (λ e s. child_shared h q.p p_used _ index_high)
      (λ e s. pending_shared h q.p p_used)
      (λ e s. pending_shared h q.gp (gp_used e))
      (λ e s. child_shared h (helped_p b h q) (helped_p_lem (omega arith)) _ index_high)
      (λ e s. child_shared h (helped_p b h q) (helped_p_lem (omega arith)) _ index_high)
      (λ e s. pending_shared h (helped_p b h q) (helped_p_lem (omega arith)))
      (λ e s. pending_shared h (helped_p b h q) (helped_p_lem (omega arith)))
      (λ e s. pending_shared h (helped_third b h q) (helped_third_lem (omega arith)))
      (λ e s. child_shared h (helped_p b h q) (helped_p_lem (omega arith)) _ index_high)
      (λ e s. child_shared h (helped_third b h q) (helped_third_lem (omega arith)) _ index_high)
      (λ e s. child_shared h (helped_third b h q) (helped_third_lem (omega arith)) _ index_high)
      (λ e s. pending_shared h (helped_third b h q) (helped_third_lem (omega arith)))
      (λ s. let z : ◌≡◌ {A = ℕ} 0 1 = cc in absurd (omega arith))

  -- "depth to D", "depth at 10"
  depth_high : q.depth ≤ depth_of h
  unfolding numbers_good
  depth_high = leb-true _ _ (both_2 _ _ (both_2 _ _ (both_2 _ _ (both_2 _ _ (both_2 _ _ numbers)))))

  depth_given : q.point ≡ 10 → not (eqb q.depth 0) ≡ true
  unfolding process_good uses_good
  depth_given e =
      sym (pick_true _ _ true (eq-eqb q.point 10 e))
      ∙ both_2 _ _ (both_2 _ _ (both_2 _ _ (both_2 _ _ (both_2 _ _ (both_2 _ _ (both_2 _ _ (both_2 _ _ known.fields)))))))

  depth_low : q.point ≡ 10 → 1 ≤ q.depth
  depth_low e = let z : q.depth ≡ 0 → ⊥ = eqb-false _ _ (not-true _ (depth_given e)) in omega arith

  -- a touch that does not succeed changes nothing
  not_touched : (t : Touch) → succeeds b h t ≡ false → touched b h t ≡ b
  not_touched (reads node word) e = refl
  not_touched (swaps node word from to) e = pick_false _ _ b e

  abbrev pub Done : Row → Type 0
  Done row = row.sound ≡ true → Leaves b h n q row

  no_flag : (point : ℕ) (row : Row) → flag_point point ≡ false → q.point ≡ point → flags_at b h q row ≡ false
  unfolding both
  no_flag point row e f = rw (f, e) refl

  touches : (point : ℕ) (row : Row) → flag_point point ≡ false → row.block ≡ touched b h row.touch → q.point ≡ point → Done row
  touches point row e f g s = by_touch (no_flag point row e g) f

  -- 4 and 5, by the compare and the room
  flag_rest : (row : Row) (x : List ℕ) → flag_point q.point ≡ true → row.block ≡ pick (both (succeeds b h row.touch) (room_for h (needed_at b h q))) x b →
      (draws_at b h q row ≡ true → row.block ≡ x → Leaves b h n q row) → Leaves b h n q row
  unfolding pick both
  flag_rest row x e f drawn = go (succeeds b h row.touch) (room_for h (needed_at b h q)) refl refl
    where
      go : (m room : Bool) → succeeds b h row.touch ≡ m → room_for h (needed_at b h q) ≡ room → Leaves b h n q row
      go false room g i = by_touch (rw (e, g) refl) (f ∙ rw g (sym (not_touched row.touch g)))
      go true true g i = drawn (rw (e, g, i) refl) (f ∙ rw (g, i) refl)
      go true false g i = by_none (rw (e, g, i) refl) (f ∙ rw (g, i) refl)

  four : q.point ≡ 4 → Leaves b h n q (row4 b h n q)
  unfolding row4 pick
  four e = flag_rest (row4 b h n q) _ (rw e) (rw e) (λ d f. by_replace e d p_used refl f)

  five : q.point ≡ 5 → Leaves b h n q (row5 b h n q)
  unfolding row5 pick
  five e = flag_rest (row5 b h n q) _ (rw e) (rw e) (λ d f. by_prune e d (gp_used e) refl f)

  nine : q.point ≡ 9 → Done (row9 b h n q)
  unfolding row9 pick
  nine e s = go (marked b h q) refl (both_2 _ _ s)
    where
      no_swap : (m x : Bool) → either m x ≡ false → m ≡ false
      no_swap true x f = f
      no_swap false x f = refl

      go : (m : Bool) → marked b h q ≡ m → either (marked b h q) (ltb q.depth (depth_of h)) ≡ true → Leaves b h n q (row9 b h n q)
      go true f r = by_touch (no_flag 9 (row9 b h n q) refl e) (rw f refl)
      go false f r =
          by_stack q.helped (no_flag 9 (row9 b h n q) refl e) (rw e) (rw e (ltb-true _ _ (rw f at r)))
          (rw (e, f, not_touched (touch9 b h q) (no_swap (succeeds b h (touch9 b h q)) _ f)) refl)

  ten : q.point ≡ 10 → Done (row10 b h n q)
  unfolding row10 pick
  ten e s = by_stack 0 (no_flag 10 (row10 b h n q) refl e) (rw e) (rw e (omega (arith, depth_high, depth_low e))) (rw e refl)

  pub row_leaves : Done (row_of b h n q)
  unfolding row1 row2 row3 row6 row7 row8 row11 row12 row13 row14 no_row look_row hang_row unflag_row pick
  row_leaves =
      each_row Done b h n q
      (touches 1 (row1 b h q) refl refl)
      (touches 2 (row2 b h q) refl refl)
      (touches 3 (row3 b h q) refl refl)
      (λ e s. four e)
      (λ e s. five e)
      (touches 6 (row6 b h q) refl refl)
      (touches 7 (row7 b h q) refl refl)
      (touches 8 (row8 b h n q) refl refl)
      nine
      ten
      (touches 11 (row11 b h q) refl refl)
      (touches 12 (row12 b h q) refl refl)
      (touches 13 (row13 b h q) refl refl)
      (touches 14 (row14 b h n q) refl refl)
      (λ s. let z : ◌≡◌ {A = ℕ} 0 1 = cc in absurd (omega arith))

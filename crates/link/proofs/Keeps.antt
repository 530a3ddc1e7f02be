-- What no row touches: the operation, the key and, but for the one added, the steps; and what becomes of the own record.
use Prim.Native.Nat.{ℕ, zero, suc, ◌+◌, ◌-◌, ◌≤◌}
use mathlib.Core.Path.{◌≡◌, refl, sym, ap, ◌∙◌, subst}
use mathlib.Core.Logic.{◌⊎◌, inl, inr}
use mathlib.Core.Bool.{Bool, true, false, not}
use mathlib.Core.List.{List}
use native.Mathlib.Omega.{arith}
use lib.Dec.{eqb}
use borrow.Author.Tests.{eqb-true}
use Rattle.tables.specs.Choice.{pick, both}
use Rattle.tables.specs.declared.header.Header.{Header}
use Rattle.nodes.specs.declared.node.Kin.{Kin}
use Rattle.nodes.specs.declared.node.Kin.TheVariants.{Leaf, Internal}
use Rattle.nodes.specs.declared.pending.Pending.{Pending}
use Rattle.nodes.specs.declared.pending.Pending.TheVariants.{Clean, Replace, Prune, Mark}
use Rattle.process.specs.declared.Process.{Process}
use Rattle.process.specs.declared.Answer.{Answer}
use Rattle.process.specs.declared.Stepped.{Stepped}
use Rattle.process.specs.Process.{restarted_of, with_point, with_l, with_index, with_depth, with_own, with_steps, descended_of, to_three, to_six, to_nine, to_ten, to_eleven}
use Rattle.process.specs.Answer.{answer, going_on, ending_of}
use Rattle.draws.specs.Draw.{new_record}
use Rattle.help.specs.Touch.{Row, seen_by}
use Rattle.nodes.specs.Pending.{pending_of}
use Rattle.help.specs.Help.{top_of, helping, help_ended}
use Rattle.help.specs.Reads.{kin_at}
use Rattle.finish.specs.Rows.{look_row, hang_row, unflag_row, row6, row7, row8, row12, row13, row14}
use Rattle.mark.specs.Rows.{touch9, row9, row10, row11}
use Rattle.flag.specs.Rows.{touch4, touch5, row4, row5}
use Rattle.points.specs.Rows.{touch2, at_leaf, at_child, row1, row2, row3, row_of}
use Rattle.points.proofs.Steps.{row_at_1, row_at_2, row_at_3, row_at_4, row_at_5, row_at_6, row_at_7, row_at_8, row_at_9, row_at_10, row_at_11, row_at_12, row_at_13, row_at_14}

-- the own record is kept; or is the new one, at 4 or 5; or there is none now: there was none, or 10 gives it up
pub data OwnTo (h : Header) (q q' : Process) : Type 0 where
  same_own : q'.own ≡ q.own → OwnTo h q q'
  new_own : q.point ≤ 5 → q'.own ≡ new_record h → OwnTo h q q'
  no_own : q'.own ≡ 0 → (q.own ≡ 0) ⊎ ((q.point ≡ 10) ⊎ (q.point ≤ 5)) → OwnTo h q q'

pub data Kept (h : Header) (q : Process) (s : Stepped) : Type 0 where
  goes : (q' : Process) → s ≡ going_on q' → q'.steps ≡ q.steps → q'.operation ≡ q.operation → q'.key ≡ q.key → OwnTo h q q' → Kept h q s
  stops : (a : Answer) → s ≡ ending_of q a → Kept h q s

picked : {h : Header} {q : Process} {x y : Stepped} (t : Bool) → (t ≡ true → Kept h q x) → (t ≡ false → Kept h q y) → Kept h q (pick t x y)
unfolding pick
picked true f g = f refl
picked false f g = g refl

module _ (b : List ℕ) (h : Header) (n : ℕ) (q : Process) where
  on : (q' : Process) → q'.steps ≡ q.steps → q'.operation ≡ q.operation → q'.key ≡ q.key → q'.own ≡ q.own → Kept h q (going_on q')
  on q' e o y w = goes q' refl e o y (same_own w)

  module _ (q₀ : Process) (e : q₀.steps ≡ q.steps) (o : q₀.operation ≡ q.operation) (y : q₀.key ≡ q.key) (w : q₀.own ≡ q.own) where
    ending : (a : Answer) → Kept h q (ending_of q₀ a)
    ending a = stops a (ap (λ (x : ℕ). ending_of (with_steps' x) a) e)
      where
        with_steps' : ℕ → Process
        with_steps' x = with_steps q₀ x

    ended : (final : Bool) (top : ℕ) → (q₀.depth ≡ 0 → final ≡ false → (q.own ≡ 0) ⊎ ((q.point ≡ 10) ⊎ (q.point ≤ 5))) → Kept h q (help_ended final top q₀)
    unfolding help_ended both
    ended final top f =
        picked (eqb q₀.depth 0) (λ d. last final refl (f (eqb-true q₀.depth 0 d))) (λ d. on (to_ten q₀ top) e o y w)
      where
        again : (q.own ≡ 0) ⊎ ((q.point ≡ 10) ⊎ (q.point ≤ 5)) → Kept h q (going_on (restarted_of q₀))
        again x = goes (restarted_of q₀) refl e o y (no_own refl x)

        last : (t : Bool) → final ≡ t → (final ≡ false → (q.own ≡ 0) ⊎ ((q.point ≡ 10) ⊎ (q.point ≤ 5)))
            → Kept h q (pick (both t (not (eqb q₀.own 0))) (ending_of q₀ (answer 1)) (going_on (restarted_of q₀)))
        last false x g = picked false (λ z. ending (answer 1)) (λ z. again (g x))
        last true x g = own (eqb q₀.own 0) refl
          where
            own : (t : Bool) → eqb q₀.own 0 ≡ t → Kept h q (pick (not t) (ending_of q₀ (answer 1)) (going_on (restarted_of q₀)))
            own true z = picked false (λ v. ending (answer 1)) (λ v. again (inl (sym w ∙ eqb-true q₀.own 0 z)))
            own false z = picked true (λ v. ending (answer 1)) (λ v. again (g (absurd (no v))))
              where
                no : true ≡ false → ⊥
                no v = let a : ◌≡◌ {A = ℕ} 0 1 = cc in omega arith

    helped : (top : ℕ) (v : Pending) → (q₀.depth ≡ 0 → (q.own ≡ 0) ⊎ ((q.point ≡ 10) ⊎ (q.point ≤ 5))) → Kept h q (helping top q₀ v)
    helped top (Clean r) f = ended false top (λ d z. f d)
    helped top (Replace r) f = on (to_six q₀ r) e o y w
    helped top (Prune r) f = on (to_nine q₀ r) e o y w
    helped top (Mark r) f = on (to_eleven q₀ r) e o y w

  looked : (parent target found missed : ℕ) → Kept h q (look_row b h q parent target found missed).stepped
  unfolding look_row
  looked parent target found missed =
      picked _ (λ z. on (with_point q found) refl refl refl refl) (λ z. picked _ (λ x. on (with_index q (q.index + 1)) refl refl refl refl) (λ x. on (with_point q missed) refl refl refl refl))

  hung : (parent from to next : ℕ) → Kept h q (hang_row b h q parent from to next).stepped
  unfolding hang_row
  hung parent from to next = on (with_point q next) refl refl refl refl

  freed : (node kind : ℕ) → Kept h q (unflag_row b h n q node kind).stepped
  unfolding unflag_row
  freed node kind = ended q refl refl refl refl true _ (λ d z. absurd (no z))
    where
      no : true ≡ false → ⊥
      no v = let a : ◌≡◌ {A = ℕ} 0 1 = cc in omega arith

  at_leaf_lem : q.point ≤ 5 → (c : ℕ) (held : Bool) → Kept h q (at_leaf (with_l q c) held)
  at_leaf_lem l c held =
      picked _ (λ z. ending q₁ refl refl refl refl _)
      (λ z. picked _
      (λ x. picked held (λ v. ending q₁ refl refl refl refl (answer 0)) (λ v. picked _ (λ u. on (with_point q₁ 4) refl refl refl refl) (λ u. helped q₁ refl refl refl refl 0 q.pseen (λ d. inr (inr l)))))
      (λ x. picked held
      (λ v. picked _ (λ u. picked _ (λ a. on (to_three q₁) refl refl refl refl) (λ a. helped q₁ refl refl refl refl 0 q.pseen (λ d. inr (inr l))))
      (λ u. helped q₁ refl refl refl refl 0 q.gseen (λ d. inr (inr l))))
      (λ v. ending q₁ refl refl refl refl (answer 0))))
    where
      q₁ : Process
      q₁ = with_l q c

  at_child_lem : q.point ≤ 5 → (kin : Kin) → Kept h q (at_child b h q kin)
  at_child_lem l (Internal c) = on (with_point (descended_of q c) 1) refl refl refl refl
  at_child_lem l (Leaf c count) = at_leaf_lem l c _

  kept_1 : Kept h q (row1 b h q).stepped
  unfolding row1
  kept_1 = on _ refl refl refl refl

  kept_2 : q.point ≡ 2 → Kept h q (row2 b h q).stepped
  unfolding row2
  kept_2 e = at_child_lem (omega arith) (kin_at b h (seen_by b h (touch2 b h q)))

  kept_3 : Kept h q (row3 b h q).stepped
  unfolding row3
  kept_3 = picked _ (λ z. on _ refl refl refl refl) (λ z. on _ refl refl refl refl)

  kept_4 : q.point ≡ 4 → Kept h q (row4 b h n q).stepped
  unfolding row4
  kept_4 e =
      picked _
      (λ z. picked _ (λ x. goes (to_six (with_own q (new_record h)) (new_record h)) refl refl refl refl (new_own (omega arith) refl)) (λ x. stops (answer 2) refl))
      (λ z. helped q refl refl refl refl (top_of b h n q) (pending_of (seen_by b h (touch4 h q))) (λ d. inr (inr (omega arith))))

  kept_5 : q.point ≡ 5 → Kept h q (row5 b h n q).stepped
  unfolding row5
  kept_5 e =
      picked _
      (λ z. picked _ (λ x. goes (to_nine (with_own q (new_record h)) (new_record h)) refl refl refl refl (new_own (omega arith) refl)) (λ x. stops (answer 2) refl))
      (λ z. helped q refl refl refl refl (top_of b h n q) (pending_of (seen_by b h (touch5 h q))) (λ d. inr (inr (omega arith))))

  kept_6 : Kept h q (row6 b h q).stepped
  unfolding row6
  kept_6 = looked _ _ 7 8

  kept_7 : Kept h q (row7 b h q).stepped
  unfolding row7
  kept_7 = hung _ _ _ 8

  kept_8 : Kept h q (row8 b h n q).stepped
  unfolding row8
  kept_8 = freed _ 1

  kept_9 : Kept h q (row9 b h n q).stepped
  unfolding row9
  kept_9 =
      picked _ (λ z. on (to_eleven q q.helped) refl refl refl refl) (λ z. helped (with_depth q (q.depth + 1)) refl refl refl refl q.helped (pending_of (seen_by b h (touch9 b h q))) (λ d. absurd (omega arith)))

  kept_10 : q.point ≡ 10 → Kept h q (row10 b h n q).stepped
  unfolding row10
  kept_10 e = ended (with_depth q (q.depth - 1)) refl refl refl refl false _ (λ d z. inr (inl e))

  kept_11 : Kept h q (row11 b h q).stepped
  unfolding row11
  kept_11 = picked _ (λ z. on _ refl refl refl refl) (λ z. on _ refl refl refl refl)

  kept_12 : Kept h q (row12 b h q).stepped
  unfolding row12
  kept_12 = looked _ _ 13 14

  kept_13 : Kept h q (row13 b h q).stepped
  unfolding row13
  kept_13 = hung _ _ _ 14

  kept_14 : Kept h q (row14 b h n q).stepped
  unfolding row14
  kept_14 = freed _ 2

  as_row : {r : Row} → row_of b h n q ≡ r → Kept h q r.stepped → Kept h q (row_of b h n q).stepped
  as_row e t = subst (λ (w : Row). Kept h q w.stepped) (sym e) t

  kept_at : (m : ℕ) → q.point ≡ m → 1 ≤ m → m ≤ 14 → Kept h q (row_of b h n q).stepped
  kept_at zero e l g = absurd (omega arith)
  kept_at (suc zero) e l g = as_row (row_at_1 b h n q e) (kept_1)
  kept_at (suc (suc zero)) e l g = as_row (row_at_2 b h n q e) (kept_2 e)
  kept_at (suc (suc (suc zero))) e l g = as_row (row_at_3 b h n q e) (kept_3)
  kept_at (suc (suc (suc (suc zero)))) e l g = as_row (row_at_4 b h n q e) (kept_4 e)
  kept_at (suc (suc (suc (suc (suc zero))))) e l g = as_row (row_at_5 b h n q e) (kept_5 e)
  kept_at (suc (suc (suc (suc (suc (suc zero)))))) e l g = as_row (row_at_6 b h n q e) (kept_6)
  kept_at (suc (suc (suc (suc (suc (suc (suc zero))))))) e l g = as_row (row_at_7 b h n q e) (kept_7)
  kept_at (suc (suc (suc (suc (suc (suc (suc (suc zero)))))))) e l g = as_row (row_at_8 b h n q e) (kept_8)
  kept_at (suc (suc (suc (suc (suc (suc (suc (suc (suc zero))))))))) e l g = as_row (row_at_9 b h n q e) (kept_9)
  kept_at (suc (suc (suc (suc (suc (suc (suc (suc (suc (suc zero)))))))))) e l g = as_row (row_at_10 b h n q e) (kept_10 e)
  kept_at (suc (suc (suc (suc (suc (suc (suc (suc (suc (suc (suc zero))))))))))) e l g = as_row (row_at_11 b h n q e) (kept_11)
  kept_at (suc (suc (suc (suc (suc (suc (suc (suc (suc (suc (suc (suc zero)))))))))))) e l g = as_row (row_at_12 b h n q e) (kept_12)
  kept_at (suc (suc (suc (suc (suc (suc (suc (suc (suc (suc (suc (suc (suc zero))))))))))))) e l g = as_row (row_at_13 b h n q e) (kept_13)
  kept_at (suc (suc (suc (suc (suc (suc (suc (suc (suc (suc (suc (suc (suc (suc zero)))))))))))))) e l g = as_row (row_at_14 b h n q e) (kept_14)
  kept_at (suc (suc (suc (suc (suc (suc (suc (suc (suc (suc (suc (suc (suc (suc (suc x))))))))))))))) e l g = absurd (omega arith)

  pub kept : 1 ≤ q.point → q.point ≤ 14 → Kept h q (row_of b h n q).stepped
  kept l g = kept_at q.point refl l g

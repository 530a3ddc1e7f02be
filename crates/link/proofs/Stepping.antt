-- A step of a busy process, at whichever point: nothing that it reads or swaps is damaged, and its row gives its turn.
use Prim.Native.Nat.{ℕ, zero, suc, ◌≤◌}
use mathlib.Core.Path.{◌≡◌, refl, sym, subst}
use mathlib.Core.Logic.{◌≢◌}
use mathlib.Core.Bool.{true}
use mathlib.Core.List.{List}
use native.Mathlib.Omega.{arith}
use Rattle.tables.specs.Layout.{depth_of}
use Rattle.tables.specs.declared.header.Header.{Header}
use Rattle.tables.proofs.Picks.{both_is}
use Rattle.process.specs.declared.Process.{Process}
use Rattle.help.specs.Touch.{Row}
use Rattle.points.specs.Rows.{row_of}
use Rattle.points.specs.Step.{sound_step}
use Rattle.points.proofs.Steps.{row_at_1, row_at_2, row_at_3, row_at_4, row_at_5, row_at_6, row_at_7, row_at_8, row_at_9, row_at_10, row_at_11, row_at_12, row_at_13, row_at_14}
use Rattle.history.specs.Shared.{Shared}
use Rattle.history.proofs.Invariant.{Sound}
use Rattle.history.proofs.Knows.{Mind, KnowsAt, Serves}
use Rattle.link.proofs.Minds.{mind_of, Uses, process_good_lem, serves_uses, helps_kind, helps_good}
use Rattle.link.proofs.Moments.{tables, Now, Busy, Turn, now_sound}
use Rattle.link.proofs.Searching.{turn_1, turn_2}
use Rattle.link.proofs.Scanning.{turn_3}
use Rattle.link.proofs.Flagging.{turn_4, turn_5}
use Rattle.link.proofs.Hanging.{turn_6, turn_7, turn_12, turn_13}
use Rattle.link.proofs.Ending.{turn_8, turn_10, turn_14}
use Rattle.link.proofs.Marking.{turn_9, turn_11}

module _ {hs : ℕ → Header} {bs : ℕ → List ℕ} {i j n : ℕ} (now : Now hs bs j) (q : Process) (y : Busy hs bs i j n q) where
  abbrev h : Header
  h = hs j

  abbrev b : List ℕ
  b = bs j

  abbrev k : ℕ
  k = (hs j).k

  abbrev S : ℕ → Shared
  S = tables hs bs

  abbrev mind : Mind
  mind = mind_of (hs j) (bs j) n q

  I : Sound k (S j)
  I = now_sound now

  as_row : {r : Row} → row_of b h n q ≡ r → Turn hs bs i j n q r.sound r.stepped r.block
      → Turn hs bs i j n q (row_of b h n q).sound (row_of b h n q).stepped (row_of b h n q).block
  as_row e t = subst (λ (w : Row). Turn hs bs i j n q w.sound w.stepped w.block) (sym e) t

  turn_at : (m : ℕ) → q.point ≡ m → Turn hs bs i j n q (row_of b h n q).sound (row_of b h n q).stepped (row_of b h n q).block
  turn_at zero e = absurd (omega (arith, y.counters.point_low))
  turn_at (suc zero) e = as_row (row_at_1 b h n q e) (turn_1 now q y e)
  turn_at (suc (suc zero)) e = as_row (row_at_2 b h n q e) (turn_2 now q y e)
  turn_at (suc (suc (suc zero))) e = as_row (row_at_3 b h n q e) (turn_3 now q y e)
  turn_at (suc (suc (suc (suc zero)))) e = as_row (row_at_4 b h n q e) (turn_4 now q y e)
  turn_at (suc (suc (suc (suc (suc zero))))) e = as_row (row_at_5 b h n q e) (turn_5 now q y e)
  turn_at (suc (suc (suc (suc (suc (suc zero)))))) e = as_row (row_at_6 b h n q e) (turn_6 now q y e)
  turn_at (suc (suc (suc (suc (suc (suc (suc zero))))))) e = as_row (row_at_7 b h n q e) (turn_7 now q y e)
  turn_at (suc (suc (suc (suc (suc (suc (suc (suc zero)))))))) e = as_row (row_at_8 b h n q e) (turn_8 now q y e)
  turn_at (suc (suc (suc (suc (suc (suc (suc (suc (suc zero))))))))) e = as_row (row_at_9 b h n q e) (turn_9 now q y e)
  turn_at (suc (suc (suc (suc (suc (suc (suc (suc (suc (suc zero)))))))))) e = as_row (row_at_10 b h n q e) (turn_10 now q y e)
  turn_at (suc (suc (suc (suc (suc (suc (suc (suc (suc (suc (suc zero))))))))))) e = as_row (row_at_11 b h n q e) (turn_11 now q y e)
  turn_at (suc (suc (suc (suc (suc (suc (suc (suc (suc (suc (suc (suc zero)))))))))))) e = as_row (row_at_12 b h n q e) (turn_12 now q y e)
  turn_at (suc (suc (suc (suc (suc (suc (suc (suc (suc (suc (suc (suc (suc zero))))))))))))) e = as_row (row_at_13 b h n q e) (turn_13 now q y e)
  turn_at (suc (suc (suc (suc (suc (suc (suc (suc (suc (suc (suc (suc (suc (suc zero)))))))))))))) e = as_row (row_at_14 b h n q e) (turn_14 now q y e)
  turn_at (suc (suc (suc (suc (suc (suc (suc (suc (suc (suc (suc (suc (suc (suc (suc x))))))))))))))) e = absurd (omega (arith, y.counters.point_high))

  pub turn : Turn hs bs i j n q (row_of b h n q).sound (row_of b h n q).stepped (row_of b h n q).block
  turn = turn_at q.point refl

  -- 1 to 5: what is used there, and nothing that belongs to helping
  uses_early : q.point ≤ 5 → (3 ≤ q.point → q.l ≢ 0) → (q.point ≡ 5 → q.gp ≢ 0) → (q.point ≡ 3 → q.index ≢ 0)
      → Uses (depth_of h) q.point q.gp q.l q.index q.helped q.other q.depth
  uses_early l a c d = record {
    room = omega (arith, y.counters.early_depth l);
    l_there = λ z e. a z;
    gp_there = c;
    helped_there = λ z. absurd (omega arith);
    index_there = d;
    other_there = λ z. absurd (omega arith);
  }

  uses_at : (m : ℕ) → q.point ≡ m → KnowsAt k S i j mind m → Uses (depth_of h) q.point q.gp q.l q.index q.helped q.other q.depth
  uses_at zero e w = absurd w
  uses_at (suc zero) e w = uses_early (omega arith) (λ a. absurd (omega arith)) (λ a. absurd (omega arith)) (λ a. absurd (omega arith))
  uses_at (suc (suc zero)) e w = uses_early (omega arith) (λ a. absurd (omega arith)) (λ a. absurd (omega arith)) (λ a. absurd (omega arith))
  uses_at (suc (suc (suc zero))) e w =
      uses_early (omega arith) (λ a z. omega (arith, w.delete.arrived.leaf.used.low)) (λ a. absurd (omega arith)) (λ a z. omega (arith, w.index_in.low))
  uses_at (suc (suc (suc (suc zero)))) e w =
      uses_early (omega arith) (λ a z. omega (arith, w.arrived.leaf.used.low)) (λ a. absurd (omega arith)) (λ a. absurd (omega arith))
  uses_at (suc (suc (suc (suc (suc zero))))) e w =
      uses_early (omega arith) (λ a z. omega (arith, w.delete.arrived.leaf.used.low)) (λ a z. omega (arith, w.delete.up.way.used.low)) (λ a. absurd (omega arith))
  uses_at (suc (suc (suc (suc (suc (suc x)))))) e w =
      serves_uses q now.fit I y.counters n (suc (suc (suc (suc (suc (suc x)))))) e (omega arith) w

  serves : 6 ≤ q.point → (m : ℕ) → q.point ≡ m → KnowsAt k S i j mind m → Serves k (S j) mind q.point
  serves l zero e w = absurd w
  serves l (suc zero) e w = absurd (omega arith)
  serves l (suc (suc zero)) e w = absurd (omega arith)
  serves l (suc (suc (suc zero))) e w = absurd (omega arith)
  serves l (suc (suc (suc (suc zero)))) e w = absurd (omega arith)
  serves l (suc (suc (suc (suc (suc zero))))) e w = absurd (omega arith)
  serves l (suc (suc (suc (suc (suc (suc x)))))) e w = subst (λ (m : ℕ). Serves k (S j) mind m) (sym e) w

  -- never damaged
  pub step_sound : sound_step b h n q ≡ true
  step_sound =
      both_is (process_good_lem q now.fit I y.held y.counters (uses_at q.point refl y.knows))
      (both_is
      (helps_good q now.fit I
      (λ l. let w = serves l q.point refl y.knows in
      (w.used, now.owners q.helped (y.newer.helped_late (λ z. omega (arith, w.used.low))) w.used.high, helps_kind k (S j) q.helped q.index q.other q.point w.helps)))
      turn.is_sound)

-- A record is not done when it is drawn, and becomes done by its swap alone.
use mathlib.Core.Path.{◌≡◌, sym, ◌∙◌}
use mathlib.Core.Logic.{◌≢◌, ◌⊎◌, inl, inr}
use Prim.Native.Nat.{ℕ, ◌+◌, ◌*◌, ◌≤◌, ◌<◌}
use native.Mathlib.Decide.{ℕ_discrete}
use native.Mathlib.Omega.{arith}
use Rattle.history.specs.View.{View, In, route, Reach, by}
use Rattle.history.specs.Shared.{Desc, Shared, NoChild, Done, replaced, pruned, Failed}
use Rattle.history.specs.Change.{rank, replace_words, prune_words, DrawReplace, DrawPrune, SameTables, Change, draw_replace}
use Rattle.history.specs.Change.{draw_prune, swap_replace}
use Rattle.history.specs.Change.{unflag_replace, mark, swap_prune, unflag_prune}
use Rattle.history.specs.Effects.{swaps}
use Rattle.history.specs.Run.{Step, changes, rests, step_swaps}
use Rattle.history.proofs.Route.{route_slot}
use Rattle.history.proofs.Invariant.{Waits, Asks, Marked, Dropped, Status, waits, over, asks, stands_marked, finished, dropped, Inv}
use Rattle.history.proofs.Invariant.{Sound}
use Rattle.history.proofs.Touch.{Touch, reach_used, gp_used, keep_waits, keep_asks, keep_marked, keep_dropped}
use Rattle.history.proofs.Rank.{rank_mark}
use Rattle.history.proofs.Paths.{on_reach}
use Rattle.history.proofs.Assemble.{same_touch}
use Rattle.history.proofs.Flags.{mark_touch, unflag_replace_touch, unflag_prune_touch}
use Rattle.history.proofs.SwapReplace.{swap_replace_touch}
use Rattle.history.proofs.SwapPrune.{written, swap_prune_touch}
use Rattle.history.proofs.Draws.{word_rank, draw_replace_touch, draw_prune_touch}
use Rattle.history.proofs.Standing.{waiting, standing, asking}
use Rattle.history.proofs.Lasting.{failed_stays}

-- the four statuses that are not done
pub data Open (k : ℕ) (t : View) (d : Desc) (r : ℕ) : Type 0 where
  open_waits : d.kind ≡ 1 → Waits k t d r → Open k t d r
  open_asks : d.kind ≡ 2 → Asks k t d r → Open k t d r
  open_marked : d.kind ≡ 2 → Marked k t d r → Open k t d r
  open_dropped : d.kind ≡ 2 → Dropped t d r → Open k t d r

pub open_done : {k : ℕ} {t : View} {d : Desc} {r : ℕ} → 1 ≤ k → Open k t d r → Done k t d r → ⊥
unfolding NoChild
open_done {k} {t} {d} hk (open_waits c v) (replaced e a) = a (route k (t.key d.p) d.key) (route_slot k _ hk d.key) v.at
open_done hk (open_waits c v) (pruned e mk a) = omega arith
open_done hk (open_asks c v) (replaced e a) = omega arith
open_done hk (open_asks c v) (pruned e mk a) = v.unmarked mk
open_done hk (open_marked c v) (replaced e a) = omega arith
open_done {k} {t} {d} hk (open_marked c v) (pruned e mk a) =
    a (route k (t.key d.third) d.key) (route_slot k _ hk d.key) v.held.at
open_done hk (open_dropped c v) (replaced e a) = omega arith
open_done hk (open_dropped c v) (pruned e mk a) = v.unmarked mk

open_of : {k : ℕ} {t : View} {d : Desc} {r : ℕ} → ¬ Done k t d r → Status k t d r → Open k t d r
open_of n (waits e v) = open_waits e v
open_of n (over e v) = absurd (n (replaced e v.no_child))
open_of n (asks e v) = open_asks e v
open_of n (stands_marked e v) = open_marked e v
open_of n (finished e v) = absurd (n (pruned e v.mark v.no_child))
open_of n (dropped e v) = open_dropped e v

pub done? : {k : ℕ} {S : Shared} → 1 ≤ k → Sound k S → (r : ℕ) → In S.records r → Dec (Done k S.view (S.rec r) r)
done? {k} {S} hk I r h = go (I.inv.status r h)
  where
    go : Status k S.view (S.rec r) r → Dec (Done k S.view (S.rec r) r)
    go (waits e v) = no (open_done hk (open_waits e v))
    go (over e v) = yes (replaced e v.no_child)
    go (asks e v) = no (open_done hk (open_asks e v))
    go (stands_marked e v) = no (open_done hk (open_marked e v))
    go (finished e v) = yes (pruned e v.mark v.no_child)
    go (dropped e v) = no (open_done hk (open_dropped e v))

-- a touch for another record leaves a record not done
elsewhere : {k u m : ℕ} {T : ℕ → Desc} {t t' : View} {x r low high : ℕ} → 1 ≤ k → Inv k u m T t → Touch k u m T t t' x r low high
    → (q : ℕ) → In m q → q ≢ r → ¬ Done k t (T q) q → Done k t' (T q) q → ⊥
elsewhere {k} {u} {m} {T} {t} {t'} hk I w q h d n dn = open_done hk (go (open_of n (I.status q h))) dn
  where
    go : Open k t (T q) q → Open k t' (T q) q
    go (open_waits e v) = open_waits e (keep_waits hk I w q h e d v)
    go (open_asks e v) = open_asks e (keep_asks hk I w q h e d v)
    go (open_marked e v) = open_marked e (keep_marked hk I w q h e d v)
    go (open_dropped e v) = open_dropped e (keep_dropped hk I w q h v)

module _ {k : ℕ} {S S' : Shared} (hk : 2 ≤ k) (I : Sound k S) where
  -- the same where the tables are as they were: only r's own touch is left to look at
  but_own : {x r low high : ℕ} → SameTables S S' → Touch k S.nodes S.records S.rec S.view S'.view x r low high → (q : ℕ)
      → In S.records q
      → ¬ Done k S.view (S.rec q) q → Done k S'.view (S'.rec q) q → q ≡ r
  but_own {x} {r} same w q h n dn = go (ℕ_discrete q r)
    where
      go : Dec (q ≡ r) → q ≡ r
      go (yes e) = e
      go (no e) = absurd (elsewhere (omega arith) I.inv w q h e n (rw (same.rec_same q h) at dn))

  done_by : (c : Change k S S') (q : ℕ) → In S.records q → ¬ Done k S.view (S.rec q) q → Done k S'.view (S'.rec q) q
      → swaps k c ≡ q
  unfolding swaps NoChild
  done_by (draw_replace r p d) q h n dn =
      absurd (elsewhere (omega arith) I.inv (draw_replace_touch hk I.inv d) q h (λ e. omega (arith, h.high, d.record_new.next)) n
      (rw (d.record_new.rec_same q h) at dn))
  done_by (draw_prune r gp d) q h n dn =
      absurd (elsewhere (omega arith) I.inv (draw_prune_touch hk I.inv d) q h (λ e. omega (arith, h.high, d.record_new.next)) n
      (rw (d.record_new.rec_same q h) at dn))
  done_by (swap_replace r i hr kd s e w same) q h n dn =
      sym (but_own same (swap_replace_touch hk I.inv hr kd (waiting (omega arith) I.inv r hr kd s e) s e w) q h n dn)
  done_by (unflag_replace r hr kd e d w same) q h n dn =
      let z = but_own same (unflag_replace_touch hk I.inv r hr kd w e) q h n dn in
      absurd (n (rw z d))
  done_by (mark r hr kd e w same) q h n dn =
      let z = but_own same (mark_touch hk I.inv r hr kd w e) q h n dn in
      absurd (go (rw (z, same.rec_same r hr) at dn))
    where
      go : Done k S'.view (S.rec r) r → ⊥
      go (replaced c a) = omega arith
      go (pruned c mk a) =
          let v = asking (omega arith) I.inv r hr kd e in
          let g = I.inv.good r hr in
          a (route k (S.view.key (S.rec r).third) (S.rec r).key) (route_slot k _ (omega arith) (S.rec r).key)
          (w.child_same (S.rec r).third _ (gp_used I.inv r hr kd) (route_slot k _ (omega arith) (S.rec r).key) ∙ v.held.at)
  done_by (swap_prune r i other hr kd mk j sj ej full d s e w same) q h n dn =
      let M = standing (omega arith) I.inv r hr kd mk s e in
      sym (but_own same (swap_prune_touch hk I.inv hr kd M s e (written M.fine j sj ej full d w)) q h n dn)
  done_by (unflag_prune r hr kd e d w same) q h n dn =
      let z = but_own same (unflag_prune_touch hk I.inv r hr kd w e) q h n dn in
      absurd (go d (rw z at n) (rw z at dn))
    where
      lost : Failed S'.view (S'.rec r) r → Done k S'.view (S'.rec r) r → ⊥
      lost f (replaced c a) = omega (arith, f.prune)
      lost f (pruned c mk a) = f.unmarked mk

      go : Done k S.view (S.rec r) r ⊎ Failed S.view (S.rec r) r → ¬ Done k S.view (S.rec r) r
          → Done k S'.view (S'.rec r) r → ⊥
      go (inl a) b c = b a
      go (inr a) b c = lost (failed_stays hk I r (changes (unflag_prune r hr kd e d w same)) hr a) c

  -- a record becomes done by its swap
  pub becomes_done : (c : Step k S S') (q : ℕ) → In S.records q → ¬ Done k S.view (S.rec q) q → Done k S'.view (S'.rec q) q
      → step_swaps k c ≡ q
  unfolding step_swaps
  becomes_done (changes c) q h n dn = done_by c q h n dn
  becomes_done (rests e) q h n dn =
      absurd (elsewhere (omega arith) I.inv (same_touch (omega arith) I.inv e) q h (λ z. omega (arith, h.low)) n
      (rw (e.tables.rec_same q h) at dn))

  drawn_replace_lem : {r p : ℕ} → DrawReplace k S S' r p → Done k S'.view (S'.rec r) r → ⊥
  unfolding NoChild
  drawn_replace_lem {r} {p} D dn = go (rw D.record_new.words at dn)
    where
      go : Done k S'.view (replace_words D.l p (S.nodes + 1) D.process D.operation D.x) r → ⊥
      go (replaced c a) = a (route k (S.view.key p) D.x) (route_slot k _ (omega arith) D.x)
          (D.flag.child_same p _ (reach_used (omega arith) I.inv.shape (on_reach k (omega arith) D.on))
          (route_slot k _ (omega arith) D.x) ∙ D.at)
      go (pruned c mk a) = omega arith

  drawn_prune_lem : {r gp : ℕ} → DrawPrune k S S' r gp → Done k S'.view (S'.rec r) r → ⊥
  drawn_prune_lem {r} {gp} D dn = go (rw D.record_new.words at dn)
    where
      gp_in : Reach k S.view gp
      gp_in = on_reach k (omega arith) D.on

      hg : In S.nodes gp
      hg = reach_used (omega arith) I.inv.shape gp_in

      hp : In S.nodes D.p
      hp =
          reach_used (omega arith) I.inv.shape (by (route k (S.view.key gp) D.x) gp_in D.inner
          (route_slot k _ (omega arith) D.x) (sym D.at))

      up : gp < D.p
      up = rw D.at at (I.inv.shape.above gp (route k (S.view.key gp) D.x) hg D.inner (route_slot k _ (omega arith) D.x))

      go : Done k S'.view (prune_words D.l D.p gp (4 * D.seen_p) D.process D.x) r → ⊥
      go (replaced c a) = omega arith
      go (pruned c mk a) =
          let e : S.view.pend D.p ≡ 4 * r + 3 = sym (D.flag.pend_same D.p hp (λ z. omega (arith, up))) ∙ mk in
          let b : rank (4 * r + 3) ≤ 3 * S.records + 2 = rw e at (word_rank (I.inv.pending D.p hp)) in
          omega (arith, rank_mark r, D.record_new.next)

  -- a record that a step draws is not done
  pub born_open : (c : Step k S S') (q : ℕ) → In S'.records q → S.records < q → Done k S'.view (S'.rec q) q → ⊥
  born_open (changes (draw_replace r p d)) q h l dn =
      let e : q ≡ r = omega (arith, h.high, d.record_new.next, d.record_new.counted) in drawn_replace_lem d (rw e at dn)
  born_open (changes (draw_prune r gp d)) q h l dn =
      let e : q ≡ r = omega (arith, h.high, d.record_new.next, d.record_new.counted) in drawn_prune_lem d (rw e at dn)
  born_open (changes (swap_replace r i hr kd s e w same)) q h l dn = omega (arith, h.high, same.records_same)
  born_open (changes (unflag_replace r hr kd e d w same)) q h l dn = omega (arith, h.high, same.records_same)
  born_open (changes (mark r hr kd e w same)) q h l dn = omega (arith, h.high, same.records_same)
  born_open (changes (swap_prune r i other hr kd mk j sj ej full d s e w same)) q h l dn = omega (arith, h.high, same.records_same)
  born_open (changes (unflag_prune r hr kd e d w same)) q h l dn = omega (arith, h.high, same.records_same)
  born_open (rests e) q h l dn = omega (arith, h.high, e.tables.records_same)

-- What no change undoes: words that are never written again, marks, done and failed records; and that a record swaps at most once.
use mathlib.Core.Path.{◌≡◌, sym, ◌∙◌}
use mathlib.Core.Logic.{◌≢◌}
use Prim.Native.Nat.{ℕ, ◌+◌, ◌*◌, ◌≤◌}
use native.Mathlib.Omega.{arith}
use Rattle.history.specs.View.{In, On}
use Rattle.history.specs.Shared.{Shared, NoChild, Done, replaced, pruned, Failed}
use Rattle.history.specs.Change.{rank, SameTables, Change, draw_replace, draw_prune, swap_replace, unflag_replace, mark, swap_prune}
use Rattle.history.specs.Change.{unflag_prune}
use Rattle.history.specs.Effects.{swaps, Grown}
use Rattle.history.specs.Run.{Step, changes, rests, step_swaps}
use Rattle.history.proofs.Invariant.{Dropped, Sound}
use Rattle.history.proofs.Touch.{keep_over, keep_finished, keep_dropped, mark_stays, mark_kids}
use Rattle.history.proofs.Standing.{waiting, standing, done_over, done_finished, failed_dropped}
use Rattle.history.proofs.SwapReplace.{swap_replace_over}
use Rattle.history.proofs.SwapPrune.{written, swap_prune_finished}
use Rattle.history.proofs.Keep.{Touched, touched}

-- a marked node keeps its mark and its children
pub record Frozen (k : ℕ) (S S' : Shared) (n : ℕ) : Type 0 where
  pub pend_same : S'.view.pend n ≡ S.view.pend n
  pub kids_same : (j : ℕ) → In k j → S'.view.child n j ≡ S.view.child n j

module _ {k : ℕ} {S S' : Shared} (hk : 2 ≤ k) (I : Sound k S) where
  pub grown : Step k S S' → Grown S S'
  grown c = (touched hk I c).grown

  pub done_stays : (r : ℕ) → Step k S S' → In S.records r → Done k S.view (S.rec r) r → Done k S'.view (S'.rec r) r
  done_stays r c h d = go (touched hk I c) d
    where
      go : Touched k S S' → Done k S.view (S.rec r) r → Done k S'.view (S'.rec r) r
      go w (replaced e a) =
          let v = keep_over (omega arith) I.inv w.touch r h e (done_over (omega arith) I.inv r h e d) in
          rw (w.grown.rec_same r h) (replaced e v.no_child)
      go w (pruned e mk a) =
          let v = keep_finished (omega arith) I.inv w.touch r h e (done_finished (omega arith) I.inv r h e d) in
          rw (w.grown.rec_same r h) (pruned e v.mark v.no_child)

  pub failed_stays : (r : ℕ) → Step k S S' → In S.records r → Failed S.view (S.rec r) r → Failed S'.view (S'.rec r) r
  failed_stays r c h f = go (touched hk I c)
    where
      still : Dropped S'.view (S.rec r) r → Failed S'.view (S.rec r) r
      still v = record {
        prune = f.prune;
        moved = λ e. (let a : rank (S.rec r).expected ≡ rank (S'.view.pend (S.rec r).p) = cc in omega (arith, v.late));
        unmarked = v.unmarked;
      }

      go : Touched k S S' → Failed S'.view (S'.rec r) r
      go w = rw (w.grown.rec_same r h) (still (keep_dropped (omega arith) I.inv w.touch r h (failed_dropped (omega arith) I.inv r h f)))

  pub frozen : (n q : ℕ) → Step k S S' → In S.nodes n → S.view.pend n ≡ 4 * q + 3 → Frozen k S S' n
  frozen n q c h e = go (touched hk I c)
    where
      go : Touched k S S' → Frozen k S S' n
      go w = record {
        pend_same = mark_stays (omega arith) I.inv w.touch n q h e ∙ sym e;
        kids_same = λ j i. mark_kids (omega arith) I.inv w.touch n q j h i e;
      }

  -- an internal node of a search path stays on it, unless it is marked
  pub stays_on : {y n : ℕ} → Step k S S' → On k S.view y n → S.view.tag n ≡ k → ((q : ℕ) → S.view.pend n ≢ 4 * q + 3)
      → On k S'.view y n
  stays_on c o e free = (touched hk I c).touch.on o e free

-- a swap of r finds r not done, and makes it done
pub record Swap (k : ℕ) (S S' : Shared) (r : ℕ) : Type 0 where
  pub used : In S.records r
  pub before : ¬ Done k S.view (S.rec r) r
  pub not_failed : ¬ Failed S.view (S.rec r) r
  pub now : Done k S'.view (S'.rec r) r

module _ {k : ℕ} {S S' : Shared} (hk : 2 ≤ k) (I : Sound k S) where
  same_rec : SameTables S S' → (r : ℕ) → In S.records r → Done k S'.view (S.rec r) r → Done k S'.view (S'.rec r) r
  same_rec e r h d = rw (e.rec_same r h) d

  swap_of : (c : Change k S S') (r : ℕ) → swaps k c ≡ r → 1 ≤ r → Swap k S S' r
  unfolding swaps NoChild
  swap_of (draw_replace r p d) q z l = absurd (omega arith)
  swap_of (draw_prune r gp d) q z l = absurd (omega arith)
  swap_of (swap_replace r i h kd s e w same) q z l = rw (← z) (record {
    used = h;
    before = λ d. (done_over (omega arith) I.inv r h kd d).no_child i s e;
    not_failed = λ f. omega (arith, f.prune);
    now = same_rec same r h (replaced kd (swap_replace_over hk I.inv h kd (waiting (omega arith) I.inv r h kd s e) s e w).no_child);
  })
  swap_of (unflag_replace r h kd e d w same) q z l = absurd (omega arith)
  swap_of (mark r h kd e w same) q z l = absurd (omega arith)
  swap_of (swap_prune r i other h kd mk j sj ej full d s e w same) q z l =
      let M = standing (omega arith) I.inv r h kd mk s e in
      let F = swap_prune_finished hk I.inv h kd M s e (written M.fine j sj ej full d w) in
      rw (← z) (record {
        used = h;
        before = λ d. (done_finished (omega arith) I.inv r h kd d).no_child i s e;
        not_failed = λ f. f.unmarked mk;
        now = same_rec same r h (pruned kd F.mark F.no_child);
      })
  swap_of (unflag_prune r h kd e d w same) q z l = absurd (omega arith)

  pub swap_makes_done : (c : Step k S S') (r : ℕ) → step_swaps k c ≡ r → 1 ≤ r → Swap k S S' r
  unfolding step_swaps
  swap_makes_done (changes c) r z l = swap_of c r z l
  swap_makes_done (rests e) r z l = absurd (omega arith)

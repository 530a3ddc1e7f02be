-- Which records stand: a flag is set by its draw alone, and where none stands every node of the tree is clean.
use mathlib.Core.Path.{◌≡◌, refl, sym, ◌∙◌}
use mathlib.Core.Logic.{◌≢◌}
use Prim.Native.Nat.{ℕ, ◌+◌, ◌*◌, ◌≤◌}
use native.Mathlib.Decide.{ℕ_discrete}
use native.Mathlib.Omega.{arith}
use Rattle.history.specs.View.{View, In, Reach}
use Rattle.history.specs.Shared.{Shared, Done, replaced, pruned, Failed, Stands, stands_replace, stands_prune}
use Rattle.history.specs.Change.{SwapPend, Change, draw_replace, draw_prune, swap_replace, unflag_replace, mark, swap_prune}
use Rattle.history.specs.Change.{unflag_prune}
use Rattle.history.specs.Run.{Step, changes, rests}
use Rattle.history.proofs.Invariant.{Word, clean, replacing, pruning, marked, Status, waits, over, asks, stands_marked, finished}
use Rattle.history.proofs.Invariant.{dropped, Sound}
use Rattle.history.proofs.Touch.{reach_used, p_used, gp_used}
use Rattle.history.proofs.Lasting.{grown}

-- a word that was not written was there
pend_back : {k u : ℕ} {t t' : View} {x v n w : ℕ} → SwapPend k u t t' x v → In u n → v ≢ w → t'.pend n ≡ w → t.pend n ≡ w
pend_back {k} {u} {t} {t'} {x} {v} {n} {w} s h d e = go (ℕ_discrete n x)
  where
    go : Dec (n ≡ x) → t.pend n ≡ w
    go (yes z) = let a : t'.pend x ≡ w = rw z at e in absurd (d (sym s.pend_new ∙ a))
    go (no z) = sym (s.pend_same n h z) ∙ e

-- the flags of record r
data Flag (r w : ℕ) : Type 0 where
  is_replace : w ≡ 4 * r + 1 → Flag r w
  is_prune : w ≡ 4 * r + 2 → Flag r w

module _ {k : ℕ} {S S' : Shared} where
  -- a change writes no flag of a record that was in use
  flag_back : (c : Change k S S') (r n w : ℕ) → r ≤ S.records → In S.nodes n → Flag r w → S'.view.pend n ≡ w → S.view.pend n ≡ w
  flag_back (draw_replace q p d) r n w h hn (is_replace z) e = pend_back d.flag hn (λ y. omega (arith, d.record_new.next)) e
  flag_back (draw_replace q p d) r n w h hn (is_prune z) e = pend_back d.flag hn (λ y. omega arith) e
  flag_back (draw_prune q gp d) r n w h hn (is_replace z) e = pend_back d.flag hn (λ y. omega arith) e
  flag_back (draw_prune q gp d) r n w h hn (is_prune z) e = pend_back d.flag hn (λ y. omega (arith, d.record_new.next)) e
  flag_back (swap_replace q i hq kd s f v same) r n w h hn a e = sym (v.pend_same n hn) ∙ e
  flag_back (unflag_replace q hq kd f d v same) r n w h hn (is_replace z) e = pend_back v hn (λ y. omega arith) e
  flag_back (unflag_replace q hq kd f d v same) r n w h hn (is_prune z) e = pend_back v hn (λ y. omega arith) e
  flag_back (mark q hq kd f v same) r n w h hn (is_replace z) e = pend_back v hn (λ y. omega arith) e
  flag_back (mark q hq kd f v same) r n w h hn (is_prune z) e = pend_back v hn (λ y. omega arith) e
  flag_back (swap_prune q i other hq kd mk j sj ej full d s f v same) r n w h hn a e = sym (v.pend_same n hn) ∙ e
  flag_back (unflag_prune q hq kd f d v same) r n w h hn (is_replace z) e = pend_back v hn (λ y. omega arith) e
  flag_back (unflag_prune q hq kd f d v same) r n w h hn (is_prune z) e = pend_back v hn (λ y. omega arith) e

  -- a record that stands and was in use stood before
  pub stands_before : 2 ≤ k → Sound k S → (c : Step k S S') (r : ℕ) → In S.records r → Stands S'.view (S'.rec r) r
      → Stands S.view (S.rec r) r
  stands_before hk I step r h st = go (rw ((grown hk I step).rec_same r h) at st)
    where
      back : Step k S S' → (n w : ℕ) → In S.nodes n → Flag r w → S'.view.pend n ≡ w → S.view.pend n ≡ w
      back (changes c) n w hn f e = flag_back c r n w h.high hn f e
      back (rests z) n w hn f e = sym (z.pend_same n hn) ∙ e

      go : Stands S'.view (S.rec r) r → Stands S.view (S.rec r) r
      go (stands_replace kd e) = stands_replace kd (back step (S.rec r).p (4 * r + 1) (p_used I.inv r h) (is_replace refl) e)
      go (stands_prune kd e) = stands_prune kd (back step (S.rec r).third (4 * r + 2) (gp_used I.inv r h kd) (is_prune refl) e)

module _ {k : ℕ} {S : Shared} (hk : 2 ≤ k) (I : Sound k S) where
  -- a record that is done has not failed
  pub not_both : {r : ℕ} → Done k S.view (S.rec r) r → Failed S.view (S.rec r) r → ⊥
  not_both (replaced e a) f = omega (arith, f.prune)
  not_both (pruned e mk a) f = f.unmarked mk

  -- a flagged or marked node of the tree has a record that stands
  pub quiet_clean : ((r : ℕ) → In S.records r → ¬ Stands S.view (S.rec r) r) → (n : ℕ) → Reach k S.view n
      → (c : ℕ) × (S.view.pend n ≡ 4 * c)
  quiet_clean quiet n o = go (I.inv.pending n (reach_used (omega arith) I.inv.shape o))
    where
      live : (r : ℕ) → In S.records r → (S.rec r).kind ≡ 2 → S.view.pend n ≡ 4 * r + 3 → (S.rec r).p ≡ n
          → Status k S.view (S.rec r) r → ⊥
      live r h kd mk e (waits a v) = omega arith
      live r h kd mk e (over a v) = omega arith
      live r h kd mk e (asks a v) = quiet r h (stands_prune a v.held.flag)
      live r h kd mk e (stands_marked a v) = quiet r h (stands_prune a v.held.flag)
      live r h kd mk e (finished a v) = v.gone (rw e o)
      live r h kd mk e (dropped a v) = v.unmarked (rw e mk)

      go : Word S.records S.rec n (S.view.pend n) → (c : ℕ) × (S.view.pend n ≡ 4 * c)
      go (clean c e l) = (c, e)
      go (replacing r e h kd p) = absurd (quiet r h (stands_replace kd (rw p e)))
      go (pruning r e h kd p) = absurd (quiet r h (stands_prune kd (rw p e)))
      go (marked r e h kd p) = absurd (live r h kd e p (I.inv.status r h))

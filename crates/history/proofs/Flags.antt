-- 8, 9, 10, 14: a mark, and a flag taken back, keep the invariant.
use mathlib.Core.Path.{◌≡◌, refl, ◌∙◌}
use mathlib.Core.Logic.{◌≢◌, ◌⊎◌, inl, inr}
use Prim.Native.Nat.{ℕ, ◌+◌, ◌*◌, ◌≤◌, ◌<◌}
use native.Mathlib.Omega.{arith}
use Rattle.history.specs.View.{View, In, route, Reach}
use Rattle.history.specs.Shared.{Desc, Done, Failed}
use Rattle.history.specs.Change.{rank, SwapPend}
use Rattle.history.proofs.Rank.{rank_clean, rank_replace, rank_prune, rank_mark}
use Rattle.history.proofs.Route.{route_slot}
use Rattle.history.proofs.Paths.{same_uniq, same_ordered}
use Rattle.history.proofs.Invariant.{GoodPrune, replace_over, prune_over, Word, clean, marked, Names, is_p, is_gp, Waits, Asks}
use Rattle.history.proofs.Invariant.{Dropped, Status, over, stands_marked, finished, dropped, Inv}
use Rattle.history.proofs.Touch.{Touch, reach_used, keep_pair, keep_over, keep_finished, p_used, gp_used}
use Rattle.history.proofs.Static.{shape_pend}
use Rattle.history.proofs.Assemble.{named_born, touch_pend, assemble_same}
use Rattle.history.proofs.Standing.{asking, done_over, done_finished, failed_dropped}

module _ {k u m : ℕ} {T : ℕ → Desc} {t : View} (hk : 2 ≤ k) (I : Inv k u m T t) (r : ℕ) (h : In m r) where
  one : 1 ≤ k
  one = omega arith

  born : (x : ℕ) → Names (T r) x → (q : ℕ) → In m q → (T q).kind ≡ 1 → Waits k t (T q) q → (T q).third ≢ x
  born x nm q hq kq v e = named_born one I q r x hq h nm kq v (omega arith)

  -- the paths are as they were: what is left to show is the word and the record's status
  around : {t' : View} {x v : ℕ} → SwapPend k u t t' x v → t.tag x ≡ k → Touch k u m T t t' x r 1 0 → Word m T x v → Status k t' (T r) r
      → Inv k u m T t'
  around {t'} {x} {v} w q c wd st = assemble_same one I c (shape_pend hk I.shape w q)
      (same_uniq k t t' u low w.tag_same w.child_same I.uniq)
      (same_ordered k t t' u low w.tag_same w.child_same one w.key_same I.ordered) (λ i. rw w.pend_new wd) (λ i. st)
    where
      low : (n : ℕ) → Reach k t n → In u n
      low n o = reach_used one I.shape o

  module _ {t' : View} (kd : (T r).kind ≡ 2) (w : SwapPend k u t t' (T r).p (4 * r + 3)) (e : t.pend (T r).p ≡ (T r).expected) where
    pub mark_touch : Touch k u m T t t' (T r).p r 1 0
    mark_touch =
        let g : GoodPrune k t (T r) r = (I.good r h).prune kd in
        let f : t.pend (T r).p ≡ 4 * g.seen = e ∙ g.clean in
        let b : g.seen < r = g.before in
        touch_pend one I r w (rw f (omega (arith, rank_clean g.seen, rank_mark r)))
        (λ c a z. omega arith) (λ q d z. d (omega arith)) (λ z. e) (λ q d z. omega arith) (λ q d z. omega arith) (λ q z. omega arith)
        (born (T r).p (is_p refl))

    pub mark_keeps : Inv k u m T t'
    mark_keeps = around w (I.good r h).inner mark_touch (marked r refl h kd refl) (stands_marked kd (record {
      held = record {
        flag = w.pend_same (T r).third hg gx ∙ A.held.flag;
        on = mark_touch.on A.held.on g.gp_inner (λ q z. omega (arith, A.held.flag));
        at =
            rw (w.key_same (T r).third hg) (w.child_same (T r).third (route k (t.key (T r).third) (T r).key) hg
            (route_slot k _ one (T r).key) ∙
            A.held.at);
      };
      mark = w.pend_new;
      fine =
          keep_pair w.tag_same w.key_same (λ j i. w.child_same (T r).p j hp i) one I.shape hp (I.good r h).inner (A.fine e);
    }))
      where
        A : Asks k t (T r) r
        A = asking one I r h kd e

        g : GoodPrune k t (T r) r
        g = (I.good r h).prune kd

        hg : In u (T r).third
        hg = gp_used I r h kd

        hp : In u (T r).p
        hp = p_used I r h

        gx : (T r).third ≢ (T r).p
        gx z = omega (arith, g.gp_above)

  -- a flag r set to clean r: older words only
  module _ {t' : View} (x f : ℕ) (w : SwapPend k u t t' x (4 * r)) (e : t.pend x ≡ f) (rf : rank f ≡ 3 * r) (nm : Names (T r) x)
      (f1 : (q : ℕ) → q ≢ r → f ≢ 4 * q + 1) (f2 : (q : ℕ) → q ≢ r → f ≢ 4 * q + 2) (f3 : (q : ℕ) → f ≢ 4 * q + 3) where
    unflag_touch : Touch k u m T t t' x r 1 0
    unflag_touch = touch_pend one I r w (rw (e, rf) (omega (arith, rank_clean r)))
        (λ c a z. let b : rank (4 * c) ≤ 3 * r = rw (e, rf) at a in omega (arith, rank_clean c)) (λ q d z. omega arith)
        (λ z. absurd (omega arith))
        (λ q d. rw e (f1 q d)) (λ q d. rw e (f2 q d)) (λ q. rw e (f3 q)) (born x nm)

  module _ {t' : View} (kd : (T r).kind ≡ 1) (w : SwapPend k u t t' (T r).p (4 * r)) (e : t.pend (T r).p ≡ 4 * r + 1) where
    pub unflag_replace_touch : Touch k u m T t t' (T r).p r 1 0
    unflag_replace_touch =
        unflag_touch (T r).p (4 * r + 1) w e (rank_replace r) (is_p refl) (λ q d z. d (omega arith)) (λ q d z. omega arith)
        (λ q z. omega arith)

    pub unflag_replace_keeps : Done k t (T r) r → Inv k u m T t'
    unflag_replace_keeps dn =
        around w (I.good r h).inner unflag_replace_touch (clean r refl (replace_over h kd refl))
        (over kd (keep_over one I unflag_replace_touch r h kd (done_over one I r h kd dn)))

  module _ {t' : View} (kd : (T r).kind ≡ 2) (w : SwapPend k u t t' (T r).third (4 * r)) (e : t.pend (T r).third ≡ 4 * r + 2) where
    pub unflag_prune_touch : Touch k u m T t t' (T r).third r 1 0
    unflag_prune_touch =
        unflag_touch (T r).third (4 * r + 2) w e (rank_prune r) (is_gp kd refl) (λ q d z. omega arith) (λ q d z. d (omega arith))
        (λ q z. omega arith)

    pub unflag_prune_keeps : Done k t (T r) r ⊎ Failed t (T r) r → Inv k u m T t'
    unflag_prune_keeps dn = around w ((I.good r h).prune kd).gp_inner unflag_prune_touch (clean r refl (prune_over h kd refl)) (st dn)
      where
        g : GoodPrune k t (T r) r
        g = (I.good r h).prune kd

        same : t'.pend (T r).p ≡ t.pend (T r).p
        same = w.pend_same (T r).p (p_used I r h) (λ z. omega (arith, g.gp_above))

        fail : Dropped t (T r) r → Dropped t' (T r) r
        fail v = record { late = rw same v.late; unmarked = rw same v.unmarked }

        st : Done k t (T r) r ⊎ Failed t (T r) r → Status k t' (T r) r
        st (inl a) = finished kd (keep_finished one I unflag_prune_touch r h kd (done_finished one I r h kd a))
        st (inr a) = dropped kd (fail (failed_dropped one I r h a))

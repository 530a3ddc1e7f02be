-- From a touch and what is known of its own record to the invariant after it: with the tables as they were, and with a record drawn.
use mathlib.Core.Path.{◌≡◌, sym, ◌∙◌}
use mathlib.Core.Logic.{◌≢◌, inl}
use Prim.Native.Nat.{ℕ, ◌+◌, ◌*◌, ◌≤◌, ◌<◌}
use native.Mathlib.Decide.{ℕ_discrete, dec_le}
use native.Mathlib.Omega.{arith}
use Rattle.history.specs.View.{View, In, route, Reach, Ordered}
use Rattle.history.specs.Shared.{Desc, Shared, NoChild}
use Rattle.history.specs.Run.{Same}
use Rattle.history.specs.Change.{rank, SwapPend}
use Rattle.history.proofs.Route.{route_slot}
use Rattle.history.proofs.Paths.{Uniq, same_on, same_reach_back, same_uniq, same_ordered}
use Rattle.history.proofs.Replaced.{span, NewOf}
use Rattle.history.proofs.Invariant.{Shape, Good, Word, Names, is_l, is_p, is_gp, Waits, Over, Status, waits, over, asks}
use Rattle.history.proofs.Invariant.{stands_marked, finished, dropped, Inv}
use Rattle.history.proofs.Touch.{new_used, Touch, reach_used, keep_over, keep_status}
use Rattle.history.proofs.Static.{good_more, word_more, shape_same}

-- a replace that waits is not done
pub waits_over : {k : ℕ} {t : View} {d : Desc} {r : ℕ} → 1 ≤ k → Waits k t d r → Over k t d → ⊥
unfolding NoChild
waits_over {k} {t} {d} hk v o = o.no_child (route k (t.key d.p) d.key) (route_slot k _ hk d.key) v.at

module _ {k u m : ℕ} {T : ℕ → Desc} {t : View} (hk : 1 ≤ k) (I : Inv k u m T t) where
  pub names_used : (q n : ℕ) → In m q → Names (T q) n → n ≤ u
  names_used q n h (is_l e z) = let g = I.good q h in omega (arith, g.used)
  names_used q n h (is_p z) = let g = I.good q h in omega (arith, g.above, g.used)
  names_used q n h (is_gp e z) =
      let g = I.good q h in
      let a = g.prune e in
      omega (arith, g.above, g.used, a.gp_above)

  -- a node that a record names is not what a waiting replace drew
  pub named_born : (q r n : ℕ) → In m q → In m r → Names (T r) n → (T q).kind ≡ 1 → Waits k t (T q) q → NewOf k t (T q).third n → ⊥
  named_born q r n hq hr nm kq v b = waits_over hk v (I.named q r n hq hr kq nm b)

  span_used : (q : ℕ) → In m q → (T q).kind ≡ 1 → (T q).third + span k (t.tag (T q).third) ≤ u
  span_used q h e = ((I.good q h).replace e).new_used

  -- a pending written at x, the paths as they were
  pub touch_pend : {t' : View} {x v : ℕ} (r : ℕ) → SwapPend k u t t' x v → rank (t.pend x) ≤ rank v
      → ((c : ℕ) → rank (4 * c) ≤ rank (t.pend x) → v ≢ 4 * c) → ((q : ℕ) → q ≢ r → v ≢ 4 * q + 3)
      → (v ≡ 4 * r + 3 → t.pend x ≡ (T r).expected)
      → ((q : ℕ) → q ≢ r → t.pend x ≢ 4 * q + 1) → ((q : ℕ) → q ≢ r → t.pend x ≢ 4 * q + 2) → ((q : ℕ) → t.pend x ≢ 4 * q + 3)
      → ((q : ℕ) → In m q → (T q).kind ≡ 1 → Waits k t (T q) q → (T q).third ≢ x) → Touch k u m T t t' x r 1 0
  unfolding NoChild
  touch_pend {t'} {x} {v} r w old un um om nr np nm bo = record {
    tag_same = w.tag_same;
    key_same = w.key_same;
    pend_same = w.pend_same;
    child_same = λ n j h i d. w.child_same n j h i;
    older = λ i. rw w.pend_new old;
    unclean = λ i c h. rw w.pend_new (un c h);
    unmarked = λ i q h. rw w.pend_new (um q h);
    own_mark = λ i e. om (sym w.pend_new ∙ e);
    no_replace = λ i. nr;
    no_prune = λ i. np;
    no_mark = λ i. nm;
    on = λ o q d. same_on k t t' u low w.tag_same w.child_same hk w.key_same o;
    back = λ o. inl (same_reach_back k t t' u low w.tag_same w.child_same o);
    nobody = λ a n h g b no₁ j s e. no₁ j s (sym (w.child_same a j h s) ∙ e);
    born = bo;
    apart = λ q n h e d a b. omega (arith, b.low, b.high);
    named = λ q n h a b. omega (arith, b.low, b.high);
  }
    where
      low : (n : ℕ) → Reach k t n → In u n
      low n o = reach_used hk I.shape o

  module _ {t' : View} {x r low high : ℕ} (w : Touch k u m T t t' x r low high) where
    third_tag : (q : ℕ) → In m q → (T q).kind ≡ 1 → t'.tag (T q).third ≡ t.tag (T q).third
    third_tag q h e = w.tag_same (T q).third (new_used I q h e)

    pub assemble_same : Shape k u t' → Uniq k t' → Ordered k t' → (In u x → Word m T x (t'.pend x)) → (In m r → Status k t' (T r) r)
        → Inv k u m T t'
    assemble_same s un od wx st = record {
      shape = s;
      uniq = un;
      ordered = od;
      pending = λ n h. pd n h (ℕ_discrete n x);
      good = λ q h. good_more k u u t t' (omega arith) w.tag_same w.key_same (I.good q h);
      status = λ q h. go q h (ℕ_discrete q r);
      apart = λ a b ha hb ka kb l. rw (third_tag a ha ka) (I.apart a b ha hb ka kb l);
      named = λ a b n ha hb ka nm nw. keep_over hk I w a ha ka (I.named a b n ha hb ka nm (rw (third_tag a ha ka) at nw));
    }
      where
        pd : (n : ℕ) → In u n → Dec (n ≡ x) → Word m T n (t'.pend n)
        pd n h (yes z) = rw z (wx (rw z at h))
        pd n h (no z) = rw (w.pend_same n h z) (I.pending n h)

        go : (q : ℕ) → In m q → Dec (q ≡ r) → Status k t' (T q) q
        go q h (yes z) = rw z (st (rw z at h))
        go q h (no z) = keep_status hk I w q h z (I.status q h)

  -- a draw: record r, the next one, and nodes up to u'
  module _ {u' : ℕ} {T' : ℕ → Desc} {t' : View} {x r : ℕ} (w : Touch k u m T t t' x r 1 0) (next : r ≡ m + 1)
      (rec_same : (q : ℕ) → In m q → T' q ≡ T q) (more : u ≤ u') where
    pub assemble_new : Shape k u' t' → Uniq k t' → Ordered k t' → Word r T' x (t'.pend x)
        → ((n : ℕ) → u < n → n ≤ u' → Word r T' n (t'.pend n))
        → Good k u' t' (T' r) r → Status k t' (T' r) r → ((T' r).kind ≡ 1 → u < (T' r).third) → ((n : ℕ) → Names (T' r) n → Reach k t n)
        → Inv k u' r T' t'
    assemble_new s un od wx wn gr sr far names = record {
      shape = s;
      uniq = un;
      ordered = od;
      pending = λ n h. pd n h (ℕ_discrete n x) (dec_le n u);
      good = λ q h. gd q h (ℕ_discrete q r);
      status = λ q h. st q h (ℕ_discrete q r);
      apart = λ a b ha hb ka kb l. ap₁ a b ha hb ka kb l (ℕ_discrete a r) (ℕ_discrete b r);
      named = λ a b n ha hb ka nm nw. na a b n ha hb ka nm nw (ℕ_discrete a r) (ℕ_discrete b r);
    }
      where
        old : (q : ℕ) → In r q → q ≢ r → In m q
        old q h d = omega arith

        is : (q : ℕ) → In m q → T' q ≡ T q
        is q h = rec_same q h

        pd : (n : ℕ) → In u' n → Dec (n ≡ x) → Dec (n ≤ u) → Word r T' n (t'.pend n)
        pd n h (yes z) c = rw z wx
        pd n h (no z) (yes c) = rw (w.pend_same n (omega arith) z) (word_more (omega arith) rec_same (I.pending n (omega arith)))
        pd n h (no z) (no c) = wn n (omega arith) h.high

        gd : (q : ℕ) → In r q → Dec (q ≡ r) → Good k u' t' (T' q) q
        gd q h (yes z) = rw z gr
        gd q h (no z) = rw (is q (old q h z)) (good_more k u u' t t' more w.tag_same w.key_same (I.good q (old q h z)))

        st : (q : ℕ) → In r q → Dec (q ≡ r) → Status k t' (T' q) q
        st q h (yes z) = rw z sr
        st q h (no z) = rw (is q (old q h z)) (keep_status hk I w q (old q h z) z (I.status q (old q h z)))

        ap₁ : (a b : ℕ) → In r a → In r b → (T' a).kind ≡ 1 → (T' b).kind ≡ 1 → a < b → Dec (a ≡ r) → Dec (b ≡ r)
            → (T' a).third + span k (t'.tag (T' a).third) < (T' b).third
        ap₁ a b ha hb ka kb l (yes z) d = absurd (omega (arith, hb.high))
        ap₁ a b ha hb ka kb l (no z) (yes y) =
            let h = old a ha z in
            let ka' : (T a).kind ≡ 1 = rw (is a h) at ka in
            let f : u < (T' b).third = rw y (far (rw y at kb)) in
            rw (is a h, third_tag w a h ka') (omega (arith, span_used a h ka'))
        ap₁ a b ha hb ka kb l (no z) (no y) =
            let h = old a ha z in
            let g = old b hb y in
            let ka' : (T a).kind ≡ 1 = rw (is a h) at ka in
            let kb' : (T b).kind ≡ 1 = rw (is b g) at kb in
            rw (is a h, is b g, third_tag w a h ka') (I.apart a b h g ka' kb' l)

        na : (a b n : ℕ) → In r a → In r b → (T' a).kind ≡ 1 → Names (T' b) n → NewOf k t' (T' a).third n → Dec (a ≡ r) → Dec (b ≡ r)
            → Over k t' (T' a)
        na a b n ha hb ka nm nw (yes z) (yes y) =
            let f : u < (T' a).third = rw z (far (rw z at ka)) in
            let h = reach_used hk I.shape (names n (rw y at nm)) in
            absurd (omega (arith, nw.low, h.high))
        na a b n ha hb ka nm nw (yes z) (no y) =
            let f : u < (T' a).third = rw z (far (rw z at ka)) in
            let g = old b hb y in
            absurd (omega (arith, nw.low, names_used b n g (rw (is b g) at nm)))
        na a b n ha hb ka nm nw (no z) (yes y) = rw (is a h) (keep_over hk I w a h ka' (come (I.status a h)))
          where
            h : In m a
            h = old a ha z

            ka' : (T a).kind ≡ 1
            ka' = rw (is a h) at ka

            nw' : NewOf k t (T a).third n
            nw' = rw (third_tag w a h ka') at (rw (is a h) at nw)

            come : Status k t (T a) a → Over k t (T a)
            come (waits e v) = absurd (v.unborn.unreached n (names n (rw y at nm)) nw')
            come (over e v) = v
            come (asks e v) = absurd (omega (arith, ka'))
            come (stands_marked e v) = absurd (omega (arith, ka'))
            come (finished e v) = absurd (omega (arith, ka'))
            come (dropped e v) = absurd (omega (arith, ka'))
        na a b n ha hb ka nm nw (no z) (no y) =
            let h = old a ha z in
            let g = old b hb y in
            let ka' : (T a).kind ≡ 1 = rw (is a h) at ka in
            rw (is a h) (keep_over hk I w a h ka' (I.named a b n h g ka' (rw (is b g) at nm)
            (rw (third_tag w a h ka') at (rw (is a h) at nw))))

-- a step that changes nothing in use is a touch of no node, for no record
pub same_touch : {k : ℕ} {S S' : Shared} → 1 ≤ k → Inv k S.nodes S.records S.rec S.view → Same k S S'
    → Touch k S.nodes S.records S.rec S.view S'.view (S.nodes + 1) 0 1 0
unfolding NoChild
same_touch {k} {S} {S'} hk I w = record {
  tag_same = w.tag_same;
  key_same = w.key_same;
  pend_same = λ n h d. w.pend_same n h;
  child_same = λ n j h i d. w.child_same n j h i;
  older = λ i. absurd (omega (arith, i.high));
  unclean = λ i. absurd (omega (arith, i.high));
  unmarked = λ i. absurd (omega (arith, i.high));
  own_mark = λ i. absurd (omega (arith, i.high));
  no_replace = λ i. absurd (omega (arith, i.high));
  no_prune = λ i. absurd (omega (arith, i.high));
  no_mark = λ i. absurd (omega (arith, i.high));
  on = λ o q d. same_on k S.view S'.view S.nodes low w.tag_same w.child_same hk w.key_same o;
  back = λ o. inl (same_reach_back k S.view S'.view S.nodes low w.tag_same w.child_same o);
  nobody = λ a n h g b no₁ j s e. no₁ j s (sym (w.child_same a j h s) ∙ e);
  born = λ q h kd v e. omega (arith, new_used I q h kd);
  apart = λ q n h e d a b. omega (arith, b.low, b.high);
  named = λ q n h a b. omega (arith, b.low, b.high);
}
  where
    low : (n : ℕ) → Reach k S.view n → In S.nodes n
    low n o = reach_used hk I.shape o

pub same_keeps : {k : ℕ} {S S' : Shared} → 2 ≤ k → Inv k S.nodes S.records S.rec S.view → Same k S S'
    → Inv k S.nodes S.records S.rec S'.view
same_keeps {k} {S} {S'} hk I w = assemble_same (omega arith) I (same_touch (omega arith) I w) (shape_same hk I.shape w)
    (same_uniq k S.view S'.view S.nodes low w.tag_same w.child_same I.uniq)
    (same_ordered k S.view S'.view S.nodes low w.tag_same w.child_same (omega arith) w.key_same I.ordered)
    (λ i. absurd (omega (arith, i.high))) (λ i. absurd (omega (arith, i.low)))
  where
    low : (n : ℕ) → Reach k S.view n → In S.nodes n
    low n o = reach_used (omega arith) I.shape o

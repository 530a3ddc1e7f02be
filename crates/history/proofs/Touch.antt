-- What every one of the seven changes is to the records that it is not about: one node x touched, for record r; their statuses are kept.
use mathlib.Core.Path.{◌≡◌, refl, sym, ◌∙◌}
use mathlib.Core.Logic.{◌≢◌, ◌⊎◌, inl, inr}
use Prim.Native.Nat.{ℕ, ◌+◌, ◌*◌, ◌≤◌}
use native.Mathlib.Decide.{ℕ_discrete}
use native.Mathlib.Omega.{arith}
use Rattle.history.specs.View.{View, In, route, On, Below, top, by, Reach}
use Rattle.history.specs.Shared.{Desc, NoChild, Pair}
use Rattle.history.specs.Change.{rank}
use Rattle.history.proofs.Route.{route_slot}
use Rattle.history.proofs.Replaced.{Between, NewOf}
use Rattle.history.proofs.Invariant.{Shape, Names, is_l, is_p, Waits, Over, Held, Asks, Marked, Finished, Dropped, Status, waits}
use Rattle.history.proofs.Invariant.{over, asks, stands_marked, finished, dropped, Inv}

-- where nothing is touched, x is a number not in use; low to high are the numbers that a change may bring into the tree
pub record Touch (k u m : ℕ) (T : ℕ → Desc) (t t' : View) (x r low high : ℕ) : Type 0 where
  pub tag_same : (n : ℕ) → In u n → t'.tag n ≡ t.tag n
  pub key_same : (n : ℕ) → In u n → t'.key n ≡ t.key n
  pub pend_same : (n : ℕ) → In u n → n ≢ x → t'.pend n ≡ t.pend n
  pub child_same : (n j : ℕ) → In u n → In k j → n ≢ x → t'.child n j ≡ t.child n j
  -- x's pending: no word comes back, no mark is touched, and only r's flags are
  pub older : In u x → rank (t.pend x) ≤ rank (t'.pend x)
  pub unclean : In u x → (c : ℕ) → rank (4 * c) ≤ rank (t.pend x) → t'.pend x ≢ 4 * c
  pub unmarked : In u x → (q : ℕ) → q ≢ r → t'.pend x ≢ 4 * q + 3
  pub own_mark : In u x → t'.pend x ≡ 4 * r + 3 → t.pend x ≡ (T r).expected
  pub no_replace : In u x → (q : ℕ) → q ≢ r → t.pend x ≢ 4 * q + 1
  pub no_prune : In u x → (q : ℕ) → q ≢ r → t.pend x ≢ 4 * q + 2
  pub no_mark : In u x → (q : ℕ) → t.pend x ≢ 4 * q + 3
  -- paths and the tree
  pub on : {y n : ℕ} → On k t y n → t.tag n ≡ k → ((q : ℕ) → t.pend n ≢ 4 * q + 3) → On k t' y n
  pub back : {n : ℕ} → Reach k t' n → Reach k t n ⊎ Between low high n
  pub nobody : (a n : ℕ) → In u a → (Reach k t n → ⊥) → (Between low high n → ⊥) → NoChild k t a n → NoChild k t' a n
  -- other records
  pub born : (q : ℕ) → In m q → (T q).kind ≡ 1 → Waits k t (T q) q → (T q).third ≢ x
  pub apart : (q n : ℕ) → In m q → (T q).kind ≡ 1 → q ≢ r → NewOf k t (T q).third n → Between low high n → ⊥
  pub named : (q n : ℕ) → In m q → Names (T q) n → Between low high n → ⊥

-- what is below a node in use is in use, and has no smaller number
pub below_up : {k u : ℕ} {t : View} {a n : ℕ} → Shape k u t → In u a → Below k t a n → In u n × (a ≤ n)
below_up s h (top e) = (rw e h, omega arith)
below_up {u = u} {a = a} {n = n} s h (by {m = m} j b q i e) = go (below_up s h b)
  where
    go : In u m × (a ≤ m) → In u n × (a ≤ n)
    go c = rw e (omega (arith, c.0, s.above m j c.0 q i, s.used m j c.0 q i), omega (arith, c.1, s.above m j c.0 q i))

pub reach_used : {k u : ℕ} {t : View} {n : ℕ} → 1 ≤ k → Shape k u t → Reach k t n → In u n
reach_used hk s o = (below_up s (omega (arith, s.room)) o).0

pub child_used : {k u : ℕ} {t : View} → Shape k u t → (n j : ℕ) → In u n → t.tag n ≡ k → In k j → In u (t.child n j)
child_used s n j h q i = omega (arith, s.above n j h q i, s.used n j h q i)

-- a pair of children where neither p nor its children changed
pub keep_pair : {k u : ℕ} {t t' : View} {x p l : ℕ} → ((n : ℕ) → In u n → t'.tag n ≡ t.tag n) → ((n : ℕ) → In u n → t'.key n ≡ t.key n)
    → ((j : ℕ) → In k j → t'.child p j ≡ t.child p j) → 1 ≤ k → Shape k u t → In u p → t.tag p ≡ k → Pair k t x p l → Pair k t' x p l
keep_pair {k} {u} {t} {t'} {x} {p} {l} tag_same key_same kid hk s h q v = record {
  other = v.other;
  place = v.place;
  place_in = v.place_in;
  place_apart = rw (key_same p h) v.place_apart;
  l_at = rw (key_same p h) (kid (route k (t.key p) x) (route_slot k _ hk x) ∙ v.l_at);
  other_at = kid v.place v.place_in ∙ v.other_at;
  other_full = rw (tag_same v.other (rw v.other_at at (child_used s p v.place h q v.place_in))) v.other_full;
  other_l = v.other_l;
  rest_empty = λ j i a b. rw (kid j i) (tag_same (t.child p j) (child_used s p j h q i) ∙ v.rest_empty j i a (rw (key_same p h) at b));
}

-- the nodes that a record names are in use
module _ {k u m : ℕ} {T : ℕ → Desc} {t : View} (I : Inv k u m T t) where
  pub p_used : (q : ℕ) → In m q → In u (T q).p
  p_used q h = let g = I.good q h in omega (arith, g.low, g.above, g.used)

  pub gp_used : (q : ℕ) → In m q → (T q).kind ≡ 2 → In u (T q).third
  gp_used q h e =
      let g = I.good q h in
      let a = g.prune e in
      omega (arith, g.above, g.used, a.gp_above, a.gp_low)

  pub new_used : (q : ℕ) → In m q → (T q).kind ≡ 1 → In u (T q).third
  new_used q h e =
      let g = I.good q h in
      let a = g.replace e in
      omega (arith, g.above, a.new_above, a.new_used)

module _ {k u m : ℕ} {T : ℕ → Desc} {t t' : View} {x r low high : ℕ} (hk : 1 ≤ k) (I : Inv k u m T t)
    (w : Touch k u m T t t' x r low high) where
  pub older_at : (n : ℕ) → In u n → rank (t.pend n) ≤ rank (t'.pend n)
  older_at n h = go (ℕ_discrete n x)
    where
      go : Dec (n ≡ x) → rank (t.pend n) ≤ rank (t'.pend n)
      go (yes z) = rw z (w.older (rw z at h))
      go (no z) = rw (w.pend_same n h z) (omega arith)

  -- a node that has left the tree does not come back
  pub still : (n : ℕ) → (Between low high n → ⊥) → (Reach k t n → ⊥) → Reach k t' n → ⊥
  still n b g o = go (w.back o)
    where
      go : Reach k t n ⊎ Between low high n → ⊥
      go (inl a) = g a
      go (inr a) = b a

  -- a marked node keeps all its words
  pub mark_stays : (n q : ℕ) → In u n → t.pend n ≡ 4 * q + 3 → t'.pend n ≡ 4 * q + 3
  mark_stays n q h e = w.pend_same n h (λ z. w.no_mark (rw z at h) q (rw z at e)) ∙ e

  pub mark_kids : (n q j : ℕ) → In u n → In k j → t.pend n ≡ 4 * q + 3 → t'.child n j ≡ t.child n j
  mark_kids n q j h i e = w.child_same n j h i (λ z. w.no_mark (rw z at h) q (rw z at e))

  pub keep_waits : (q : ℕ) → In m q → (T q).kind ≡ 1 → q ≢ r → Waits k t (T q) q → Waits k t' (T q) q
  keep_waits q h kd d v = record {
    flag = w.pend_same (T q).p hp px ∙ v.flag;
    on = w.on v.on (I.good q h).inner (λ a e. omega (arith, v.flag));
    at =
        rw (w.key_same (T q).p hp) (w.child_same (T q).p (route k (t.key (T q).p) (T q).key) hp (route_slot k _ hk (T q).key) px ∙
        v.at);
    unborn = record {
      unreached = λ n o a. un n (w.back o) (rw th at a);
      kids = λ j a s. w.child_same (T q).third j hn s (w.born q h kd v) ∙ v.unborn.kids j (sym th ∙ a) s;
    };
  }
    where
      hp : In u (T q).p
      hp = p_used I q h

      hn : In u (T q).third
      hn = new_used I q h kd

      px : (T q).p ≢ x
      px z = w.no_replace (rw z at hp) q d (rw z at v.flag)

      th : t'.tag (T q).third ≡ t.tag (T q).third
      th = w.tag_same (T q).third hn

      un : (n : ℕ) → Reach k t n ⊎ Between low high n → NewOf k t (T q).third n → ⊥
      un n (inl o) a = v.unborn.unreached n o a
      un n (inr b) a = w.apart q n h kd d a b

  pub keep_over : (q : ℕ) → In m q → (T q).kind ≡ 1 → Over k t (T q) → Over k t' (T q)
  keep_over q h kd v = record {
    no_child = w.nobody (T q).p (T q).l (p_used I q h) v.gone (w.named q (T q).l h (is_l kd refl)) v.no_child;
    gone = still (T q).l (w.named q (T q).l h (is_l kd refl)) v.gone;
  }

  keep_held : (q : ℕ) → In m q → (T q).kind ≡ 2 → q ≢ r → Held k t (T q) q → Held k t' (T q) q
  keep_held q h kd d v = record {
    flag = w.pend_same (T q).third hg gx ∙ v.flag;
    on = w.on v.on ((I.good q h).prune kd).gp_inner (λ a e. omega (arith, v.flag));
    at =
        rw (w.key_same (T q).third hg) (w.child_same (T q).third (route k (t.key (T q).third) (T q).key) hg
        (route_slot k _ hk (T q).key) gx ∙
        v.at);
  }
    where
      hg : In u (T q).third
      hg = gp_used I q h kd

      gx : (T q).third ≢ x
      gx z = w.no_prune (rw z at hg) q d (rw z at v.flag)

  fine_of : (q : ℕ) → In m q → (T q).p ≢ x → Pair k t (T q).key (T q).p (T q).l → Pair k t' (T q).key (T q).p (T q).l
  fine_of q h px v =
      keep_pair w.tag_same w.key_same (λ j i. w.child_same (T q).p j (p_used I q h) i px) hk I.shape (p_used I q h)
      (I.good q h).inner v

  keep_unmarked : (q : ℕ) → In m q → q ≢ r → t.pend (T q).p ≢ 4 * q + 3 → t'.pend (T q).p ≢ 4 * q + 3
  keep_unmarked q h d v e = go (ℕ_discrete (T q).p x)
    where
      go : Dec ((T q).p ≡ x) → ⊥
      go (yes z) = w.unmarked (rw z at (p_used I q h)) q d (rw z at e)
      go (no z) = v (sym (w.pend_same (T q).p (p_used I q h) z) ∙ e)

  pub keep_asks : (q : ℕ) → In m q → (T q).kind ≡ 2 → q ≢ r → Asks k t (T q) q → Asks k t' (T q) q
  keep_asks q h kd d v = record {
    held = keep_held q h kd d v.held;
    age = omega (arith, v.age, older_at (T q).p (p_used I q h));
    fine = λ e. fin e (ℕ_discrete (T q).p x);
    unmarked = keep_unmarked q h d v.unmarked;
  }
    where
      fin : t'.pend (T q).p ≡ (T q).expected → Dec ((T q).p ≡ x) → Pair k t' (T q).key (T q).p (T q).l
      fin e (yes z) =
          let g = (I.good q h).prune kd in
          absurd (w.unclean (rw z at (p_used I q h)) g.seen (rw (z, g.clean) at v.age) (cc))
      fin e (no z) = fine_of q h z (v.fine (sym (w.pend_same (T q).p (p_used I q h) z) ∙ e))

  off_mark : (q : ℕ) → In m q → t.pend (T q).p ≡ 4 * q + 3 → (T q).p ≢ x
  off_mark q h e z = w.no_mark (rw z at (p_used I q h)) q (rw z at e)

  pub keep_marked : (q : ℕ) → In m q → (T q).kind ≡ 2 → q ≢ r → Marked k t (T q) q → Marked k t' (T q) q
  keep_marked q h kd d v = record {
    held = keep_held q h kd d v.held;
    mark = mark_stays (T q).p q (p_used I q h) v.mark;
    fine = fine_of q h (off_mark q h v.mark) v.fine;
  }

  pub keep_finished : (q : ℕ) → In m q → (T q).kind ≡ 2 → Finished k t (T q) q → Finished k t' (T q) q
  keep_finished q h kd v = record {
    mark = mark_stays (T q).p q (p_used I q h) v.mark;
    fine = fine_of q h (off_mark q h v.mark) v.fine;
    no_child = w.nobody (T q).third (T q).p (gp_used I q h kd) v.gone (w.named q (T q).p h (is_p refl)) v.no_child;
    gone = still (T q).p (w.named q (T q).p h (is_p refl)) v.gone;
  }

  pub keep_dropped : (q : ℕ) → In m q → Dropped t (T q) q → Dropped t' (T q) q
  keep_dropped q h v = record {
    late = omega (arith, v.late, older_at (T q).p (p_used I q h));
    unmarked = λ e. go e (ℕ_discrete q r) (ℕ_discrete (T q).p x);
  }
    where
      go : t'.pend (T q).p ≡ 4 * q + 3 → Dec (q ≡ r) → Dec ((T q).p ≡ x) → ⊥
      go e (no d) c = keep_unmarked q h d v.unmarked e
      go e (yes d) (no c) = v.unmarked (sym (w.pend_same (T q).p (p_used I q h) c) ∙ e)
      go e (yes d) (yes c) =
          let f : t'.pend x ≡ 4 * r + 3 = rw (c, d) at e in
          let y : t.pend (T q).p ≡ (T q).expected = rw (c, d) (w.own_mark (rw c at (p_used I q h)) f) in
          let z : rank (T q).expected ≡ rank (t.pend (T q).p) = rw y in
          omega (arith, v.late)

  pub keep_status : (q : ℕ) → In m q → q ≢ r → Status k t (T q) q → Status k t' (T q) q
  keep_status q h d (waits kd v) = waits kd (keep_waits q h kd d v)
  keep_status q h d (over kd v) = over kd (keep_over q h kd v)
  keep_status q h d (asks kd v) = asks kd (keep_asks q h kd d v)
  keep_status q h d (stands_marked kd v) = stands_marked kd (keep_marked q h kd d v)
  keep_status q h d (finished kd v) = finished kd (keep_finished q h kd v)
  keep_status q h d (dropped kd v) = dropped kd (keep_dropped q h v)

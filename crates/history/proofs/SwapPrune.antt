-- 13: the swap of a marked parent for its other child keeps the invariant.
use mathlib.Core.Path.{◌≡◌, refl, sym, ◌∙◌}
use mathlib.Core.Logic.{◌≢◌, inl}
use Prim.Native.Nat.{ℕ, ◌+◌, ◌*◌, ◌≤◌, ◌<◌}
use native.Mathlib.Decide.{ℕ_discrete}
use native.Mathlib.Omega.{arith}
use Rattle.history.specs.View.{View, In, route, On, Reach, by}
use Rattle.history.specs.Shared.{Desc, NoChild, Pair}
use Rattle.history.specs.Change.{SwapChild}
use Rattle.history.proofs.Route.{route_slot}
use Rattle.history.proofs.Paths.{here?, on_reach}
use Rattle.history.proofs.Pruned.{Prune, Fate, stays, was_p, dropped as lost, fate, prune_back, spared, prune_uniq, prune_ordered}
use Rattle.history.proofs.Pruned.{dropped_leaf}
use Rattle.history.proofs.Invariant.{Good, GoodPrune, is_gp, Marked, Finished, finished, Inv}
use Rattle.history.proofs.Replaced.{Between}
use Rattle.history.proofs.Touch.{Touch, reach_used, keep_pair, p_used, gp_used}
use Rattle.history.proofs.Static.{shape_child}
use Rattle.history.proofs.Assemble.{named_born, assemble_same}
use Rattle.history.proofs.SwapReplace.{at_first}

-- a child of p that is not empty and not l is the sibling
pub sibling : {k : ℕ} {t : View} {x p l other j : ℕ} (v : Pair k t x p l) → In k j → t.child p j ≡ other → t.tag other ≢ 0 → other ≢ l
    → other ≡ v.other
sibling {k} {t} {x} {p} {l} {other} {j} v s e full d = go (ℕ_discrete j v.place) (ℕ_discrete j (route k (t.key p) x))
  where
    go : Dec (j ≡ v.place) → Dec (j ≡ route k (t.key p) x) → other ≡ v.other
    go (yes z) c = cc v.other_at
    go (no z) (yes y) = absurd (d (cc v.l_at))
    go (no z) (no y) = absurd (full (rw e at (v.rest_empty j s z y)))

-- so a swap that writes such a child writes the sibling
pub written : {k u : ℕ} {t t' : View} {x p l gp i other : ℕ} (v : Pair k t x p l) (j : ℕ) → In k j → t.child p j ≡ other → t.tag other ≢ 0
    → other ≢ l
    → SwapChild k u t t' gp i other → SwapChild k u t t' gp i v.other
written v j s e full d w = rw (sibling v s e full d) at w

module _ {k u m : ℕ} {T : ℕ → Desc} {t t' : View} {r i : ℕ} (hk : 2 ≤ k) (I : Inv k u m T t) (h : In m r) (kd : (T r).kind ≡ 2)
    (M : Marked k t (T r) r)
    (ii : In k i) (was : t.child (T r).third i ≡ (T r).p) (w : SwapChild k u t t' (T r).third i M.fine.other) where
  one : 1 ≤ k
  one = omega arith

  g : Good k u t (T r) r
  g = I.good r h

  a : GoodPrune k t (T r) r
  a = g.prune kd

  hp : In u (T r).p
  hp = p_used I r h

  hg : In u (T r).third
  hg = gp_used I r h kd

  gp_in : Reach k t (T r).third
  gp_in = on_reach k one M.held.on

  pub p_in : Reach k t (T r).p
  p_in = by i gp_in a.gp_inner ii (sym was)

  at_route : route k (t.key (T r).third) (T r).key ≡ i
  at_route =
      (I.uniq.one (T r).third (route k (t.key (T r).third) (T r).key) (T r).third i gp_in a.gp_inner
      (route_slot k _ one (T r).key) gp_in a.gp_inner ii (cc M.held.at)).1

  gp_p : (T r).third ≢ (T r).p
  gp_p z = omega (arith, a.gp_above)

  pub prune_of_lem : Prune k u t t' (T r).third i (T r).p M.fine.other M.fine.place
  prune_of_lem = record {
    swap = w;
    low = λ n o. reach_used one I.shape o;
    was = was;
    i_in = ii;
    gp_int = a.gp_inner;
    gp_in = gp_in;
    p_int = g.inner;
    gp_p = gp_p;
    place_in = M.fine.place_in;
    other_at = M.fine.other_at;
    rest_leaf = λ j s d. rest j s d (ℕ_discrete j (route k (t.key (T r).p) (T r).key));
  }
    where
      rest : (j : ℕ) → In k j → j ≢ M.fine.place → Dec (j ≡ route k (t.key (T r).p) (T r).key) → t.tag (t.child (T r).p j) ≢ k
      rest j s d (yes z) = rw (z, M.fine.l_at) g.leaf
      rest j s d (no z) = λ e. omega (arith, M.fine.rest_empty j s d z)

  other_in : Reach k t M.fine.other
  other_in = by M.fine.place p_in g.inner M.fine.place_in (sym M.fine.other_at)

  pub swap_prune_touch : Touch k u m T t t' (T r).third r 1 0
  unfolding NoChild
  swap_prune_touch = record {
    tag_same = w.tag_same;
    key_same = w.key_same;
    pend_same = λ n l d. w.pend_same n l;
    child_same = λ n j l s d. w.child_same n j l s (λ z. d z.0);
    older = λ b. rw (w.pend_same (T r).third hg) (omega arith);
    unclean = λ b c l z. omega (arith, pnd);
    unmarked = λ b q d z. omega (arith, pnd);
    own_mark = λ b z. absurd (omega (arith, pnd));
    no_replace = λ b q d z. omega (arith, M.held.flag);
    no_prune = λ b q d z. d (omega (arith, M.held.flag));
    no_mark = λ b q z. omega (arith, M.held.flag);
    on = stay;
    back = λ o. inl (prune_back k one prune_of_lem o);
    nobody = nob;
    born = λ q hq kq v e. named_born one I q r (T r).third hq h (is_gp kd refl) kq v (omega arith);
    apart = λ q n hq kq d nw b. omega (arith, b.low, b.high);
    named = λ q n hq nm b. omega (arith, b.low, b.high);
  }
    where
      pnd : t'.pend (T r).third ≡ 4 * r + 2
      pnd = w.pend_same (T r).third hg ∙ M.held.flag

      stay : {y n : ℕ} → On k t y n → t.tag n ≡ k → ((q : ℕ) → t.pend n ≢ 4 * q + 3) → On k t' y n
      stay {y} {n} o q free = go (fate k one prune_of_lem o)
        where
          go : Fate k t t' (T r).p M.fine.other y n → On k t' y n
          go (stays b) = b
          go (was_p e b) = absurd (free r (rw e M.mark))
          go (lost j s e d) = absurd (dropped_leaf k one prune_of_lem j s e d q)

      nob : (b n : ℕ) → In u b → (Reach k t n → ⊥) → (Between 1 0 n → ⊥) → NoChild k t b n → NoChild k t' b n
      nob b n hb gone out no₁ j s e = go (here? b (T r).third j i)
        where
          go : Dec ((b ≡ (T r).third) × (j ≡ i)) → ⊥
          go (yes z) = let y : M.fine.other ≡ n = cc w.child_new in gone (rw y at other_in)
          go (no z) = no₁ j s (sym (w.child_same b j hb s z) ∙ e)

  pub swap_prune_finished : Finished k t' (T r) r
  unfolding NoChild
  swap_prune_finished = record {
    mark = w.pend_same (T r).p hp ∙ M.mark;
    fine =
        keep_pair w.tag_same w.key_same (λ j s. w.child_same (T r).p j hp s (λ z. gp_p (sym z.0))) one I.shape hp
        g.inner M.fine;
    no_child = nc;
    gone = λ o. (spared k one prune_of_lem I.uniq o).not_p refl;
  }
    where
      gp_stays : Reach k t' (T r).third
      gp_stays = on_reach k one (swap_prune_touch.on M.held.on a.gp_inner (λ q z. omega (arith, M.held.flag)))

      nc : (j : ℕ) → In k j → t'.child (T r).third j ≢ (T r).p
      nc j s e = (spared k one prune_of_lem I.uniq (by j gp_stays (w.tag_same (T r).third hg ∙ a.gp_inner) s (sym e))).not_p refl

  pub swap_prune_keeps : Inv k u m T t'
  swap_prune_keeps = assemble_same one I swap_prune_touch
      (shape_child hk I.shape w a.gp_low (λ e. sym at_route ∙ at_first one I (T r).third (T r).key g.finite e)
      (omega (arith, a.gp_above, up)) (reach_used one I.shape other_in).high)
      (prune_uniq k one prune_of_lem I.uniq)
      (prune_ordered k one prune_of_lem I.uniq I.ordered)
      (λ b. rw (w.pend_same (T r).third hg) (I.pending (T r).third hg))
      (λ b. finished kd swap_prune_finished)
    where
      up : (T r).p < M.fine.other
      up = rw M.fine.other_at at (I.shape.above (T r).p M.fine.place hp g.inner M.fine.place_in)

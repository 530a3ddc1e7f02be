-- 7: the swap of a leaf for what was drawn keeps the invariant.
use mathlib.Core.Path.{◌≡◌, refl, sym, ◌∙◌}
use mathlib.Core.Logic.{◌≢◌, ◌⊎◌, inl, inr}
use mathlib.Core.List.{Memᴰ}
use Prim.Native.Nat.{ℕ, ◌+◌, ◌*◌, ◌≤◌, ◌<◌}
use native.Mathlib.Omega.{arith}
use Rattle.tables.specs.Numbers.{infinity}
use Rattle.history.specs.View.{View, In, route, keys, On, Reach, by, Ordered}
use Rattle.history.specs.Shared.{Desc, NoChild}
use Rattle.history.specs.Change.{SwapChild}
use Rattle.history.proofs.Route.{tri, route_slot, route_first}
use Rattle.history.proofs.Paths.{here?, on_down, on_reach}
use Rattle.history.proofs.Replaced.{span, NewOf, Brings, Replace, new_of, replace_on, replace_reach, replace_got, replace_uniq}
use Rattle.history.proofs.Replaced.{replace_ordered, l_gone}
use Rattle.history.proofs.Invariant.{Good, GoodReplace, is_p, Waits, Over, over, Inv}
use Rattle.history.proofs.Touch.{Touch, reach_used, p_used}
use Rattle.history.proofs.Brings.{Effect, puts, takes, effect, kid_route, kid_leaf}
use Rattle.history.proofs.Static.{shape_child}
use Rattle.history.proofs.Assemble.{named_born, assemble_same}

-- a swap below the dummy is at its first child
pub at_first : {k u m : ℕ} {T : ℕ → Desc} {t : View} → 1 ≤ k → Inv k u m T t → (n x : ℕ) → x < infinity → n ≡ 2 → route k (t.key n) x ≡ 1
at_first {k} {t = t} hk I n x fin e = rw e (route_first k (t.key 2) hk x (λ i a b. rw (I.shape.crown.dummy_keys i a b) fin))

module _ {k u m : ℕ} {T : ℕ → Desc} {t t' : View} {r i : ℕ} (hk : 2 ≤ k) (I : Inv k u m T t) (h : In m r) (kd : (T r).kind ≡ 1)
    (W : Waits k t (T r) r)
    (ii : In k i) (was : t.child (T r).p i ≡ (T r).l) (w : SwapChild k u t t' (T r).p i (T r).third) where
  one : 1 ≤ k
  one = omega arith

  g : Good k u t (T r) r
  g = I.good r h

  a : GoodReplace k u t (T r)
  a = g.replace kd

  hp : In u (T r).p
  hp = p_used I r h

  p_in : Reach k t (T r).p
  p_in = on_reach k one W.on

  pub l_in : Reach k t (T r).l
  l_in = by i p_in g.inner ii (sym was)

  -- the word swapped is the one where a search for the key looks
  at_route : route k (t.key (T r).p) (T r).key ≡ i
  at_route =
      (I.uniq.one (T r).p (route k (t.key (T r).p) (T r).key) (T r).p i p_in g.inner (route_slot k _ one (T r).key) p_in
      g.inner ii (cc W.at)).1

  pub l_on : On k t (T r).key (T r).l
  l_on = on_down k W.on g.inner (sym W.at)

  pub eff : Effect k t (T r)
  eff = effect k t (T r) hk (I.shape.leaf_keys (T r).l (omega (arith, g.low, g.above, g.used)) g.leaf) a.made

  pub replace_of_lem : Replace k u t t' (T r).p i (T r).l (T r).third
  replace_of_lem = record {
    swap = w;
    low = λ n o. reach_used one I.shape o;
    new_used = a.new_used;
    was = was;
    p_in = p_in;
    p_int = g.inner;
    i_in = ii;
    l_leaf = g.leaf;
    unborn = W.unborn;
    past_root = omega (arith, g.low, g.above, a.new_above);
    kid_leaf =
        λ j e s. rw (W.unborn.kids j e s) (kid_leaf k t (T r) hk
        (I.shape.leaf_keys (T r).l (omega (arith, g.low, g.above, g.used)) g.leaf) a.made j e s);
  }

  pub swap_replace_touch : Touch k u m T t t' (T r).p r (T r).third ((T r).third + span k (t.tag (T r).third))
  unfolding NoChild
  swap_replace_touch = record {
    tag_same = w.tag_same;
    key_same = w.key_same;
    pend_same = λ n l d. w.pend_same n l;
    child_same = λ n j l s d. w.child_same n j l s (λ z. d z.0);
    older = λ b. rw (w.pend_same (T r).p hp) (omega arith);
    unclean = λ b c l z. omega (arith, pnd);
    unmarked = λ b q d z. omega (arith, pnd);
    own_mark = λ b z. absurd (omega (arith, pnd));
    no_replace = λ b q d z. d (omega (arith, W.flag));
    no_prune = λ b q d z. omega (arith, W.flag);
    no_mark = λ b q z. omega (arith, W.flag);
    on = λ o q d. replace_on k one replace_of_lem o (λ z. g.leaf (rw z at q));
    back = λ o. new_of k (replace_got k one replace_of_lem o);
    nobody = nob;
    born = λ q hq kq v e. named_born one I q r (T r).p hq h (is_p refl) kq v (omega arith);
    apart = ap₁;
    named = λ q n hq nm b. named_born one I r q n h hq nm kd W b;
  }
    where
      pnd : t'.pend (T r).p ≡ 4 * r + 1
      pnd = w.pend_same (T r).p hp ∙ W.flag

      nob : (b n : ℕ) → In u b → (Reach k t n → ⊥) → (NewOf k t (T r).third n → ⊥)
          → NoChild k t b n → NoChild k t' b n
      nob b n hb gone out no₁ j s e = go (here? b (T r).p j i)
        where
          go : Dec ((b ≡ (T r).p) × (j ≡ i)) → ⊥
          go (yes z) = let y : (T r).third ≡ n = cc w.child_new in out (omega arith)
          go (no z) = no₁ j s (sym (w.child_same b j hb s z) ∙ e)

      ap₁ : (q n : ℕ) → In m q → (T q).kind ≡ 1 → q ≢ r → NewOf k t (T q).third n → NewOf k t (T r).third n → ⊥
      ap₁ q n hq kq d nw b = far (tri q r)
        where
          far : (q < r) ⊎ ((r < q) ⊎ (q ≡ r)) → ⊥
          far (inl y) = omega (arith, I.apart q r hq h kq kd y, nw.high, b.low)
          far (inr (inl y)) = omega (arith, I.apart r q h hq kd kq y, nw.low, b.high)
          far (inr (inr y)) = d y

  pub swap_replace_over : Over k t' (T r)
  unfolding NoChild
  swap_replace_over = record { no_child = nc; gone = l_gone k one replace_of_lem I.uniq }
    where
      p_l : (T r).p ≢ (T r).l
      p_l z = omega (arith, g.above)

      nc : (j : ℕ) → In k j → t'.child (T r).p j ≢ (T r).l
      nc j s z =
          l_gone k one replace_of_lem I.uniq (by j (replace_reach k one replace_of_lem p_in p_l) (w.tag_same (T r).p hp ∙ g.inner) s (sym z))

  -- every key that the new node brings is one whose search came to l
  came : (y : ℕ) → Brings k t (T r).third y → On k t y (T r).l
  unfolding Ordered
  came y b = go eff
    where
      old : Memᴰ y (keys t (T r).l) → On k t y (T r).l
      old mm = I.ordered (T r).l y l_in g.leaf mm

      either : (y ≡ (T r).key) ⊎ Memᴰ y (keys t (T r).l) → On k t y (T r).l
      either (inl e) = rw e l_on
      either (inr mm) = old mm

      go : Effect k t (T r) → On k t y (T r).l
      go (puts op no₁ only all new) = either (only y b)
      go (takes op mm only all) = old (only y b).0

  pub swap_replace_keeps : Inv k u m T t'
  swap_replace_keeps = assemble_same one I swap_replace_touch
      (shape_child hk I.shape w g.low (λ e. sym at_route ∙ at_first one I (T r).p (T r).key g.finite e)
      (omega (arith, g.above, a.new_above)) (omega (arith, a.new_used)))
      (replace_uniq k one replace_of_lem I.uniq)
      (replace_ordered k one replace_of_lem I.uniq I.ordered came
      (kid_route k t (T r) hk (I.shape.leaf_keys (T r).l (omega (arith, g.low, g.above, g.used)) g.leaf) g.finite a.made))
      (λ b. rw (w.pend_same (T r).p hp) (I.pending (T r).p hp))
      (λ b. over kd swap_replace_over)

-- What each change makes of the set: the two swaps put in or take out exactly their record's key, the others leave it alone.
use mathlib.Core.Path.{◌≡◌, refl, sym, ◌∙◌}
use mathlib.Core.Logic.{◌≢◌, ◌⊎◌, inl, inr}
use mathlib.Core.List.Memᴰ
use mathlib.Core.List.{[], Memᴰ}
use Prim.Native.Nat.{ℕ, ◌≤◌}
use native.Mathlib.Decide.{ℕ_discrete}
use native.Mathlib.Omega.{arith}
use Rattle.tables.specs.Choice.{listed}
use Rattle.history.specs.View.{View, In, route, keys, On, Reach, by, Holds, Ordered}
use Rattle.history.specs.Shared.{Desc, Shared}
use Rattle.history.specs.Change.{SwapChild, SwapPend, Change, draw_replace, draw_prune, swap_replace, unflag_replace, mark}
use Rattle.history.specs.Change.{swap_prune, unflag_prune}
use Rattle.history.specs.Effects.{SameSet, Removed, SetMoves, adds, removes, swaps}
use Rattle.history.specs.Run.{Step, changes, rests, step_swaps}
use Rattle.history.proofs.Route.{route_slot}
use Rattle.history.proofs.Paths.{keys_same, leaf_one, same_reach, same_reach_back}
use Rattle.history.proofs.Replaced.{Brings, brought, stayed, after}
use Rattle.history.proofs.Pruned.{Spared, prune_left, prune_kept}
use Rattle.history.proofs.Brings.{Effect, puts, takes}
use Rattle.history.proofs.Invariant.{Inv, Sound, Waits, Marked}
use Rattle.history.proofs.Touch.{reach_used}
use Rattle.history.proofs.Standing.{waiting, standing}
use Rattle.history.proofs.SwapReplace.{replace_of_lem, eff, l_in, l_on}
use Rattle.history.proofs.SwapPrune.{written, prune_of_lem, p_in}

-- where tags, keys and children of nodes in use are as they were, so is the set
paths_set : {k u m : ℕ} {T : ℕ → Desc} {t : View} (t' : View) → 2 ≤ k → Inv k u m T t → ((n : ℕ) → In u n → t'.tag n ≡ t.tag n)
    → ((n : ℕ) → In u n → t'.key n ≡ t.key n) → ((n j : ℕ) → In u n → In k j → t'.child n j ≡ t.child n j) → SameSet k t t'
unfolding SameSet
paths_set {k} {u} {m} {T} {t} t' hk I tag_same key_same child_same y = (to, fro)
  where
    low : (n : ℕ) → Reach k t n → In u n
    low n o = reach_used (omega arith) I.shape o

    to : Holds k t y → Holds k t' y
    to h =
        let l = low h.node h.reached in
        record {
          node = h.node;
          reached = same_reach k t t' u low tag_same child_same h.reached;
          leaf = rw (tag_same h.node l) h.leaf;
          has = rw (keys_same t t' h.node (tag_same h.node l) (key_same h.node l)) h.has;
        }

    fro : Holds k t' y → Holds k t y
    fro h =
        let o = same_reach_back k t t' u low tag_same child_same h.reached in
        let l = low h.node o in
        record {
          node = h.node;
          reached = o;
          leaf = rw (tag_same h.node l) at h.leaf;
          has = rw (keys_same t t' h.node (tag_same h.node l) (key_same h.node l)) at h.has;
        }

pend_set : {k u m : ℕ} {T : ℕ → Desc} {t t' : View} {x v : ℕ} → 2 ≤ k → Inv k u m T t → SwapPend k u t t' x v → SameSet k t t'
pend_set {t' = t'} hk I w = paths_set t' hk I w.tag_same w.key_same w.child_same

-- a key that stands in two leaves of the tree stands in one
pub one_place : {k u m : ℕ} {T : ℕ → Desc} {t : View} {x n : ℕ} → Inv k u m T t → (h : Holds k t x) → On k t x n → t.tag n ≢ k
    → h.node ≡ n
unfolding Ordered
one_place {k} I h o q = leaf_one k (I.ordered _ _ h.reached h.leaf h.has) o h.leaf q

module _ {k u m : ℕ} {T : ℕ → Desc} {t t' : View} {r i : ℕ} (hk : 2 ≤ k) (I : Inv k u m T t) (h : In m r) (kd : (T r).kind ≡ 1)
    (W : Waits k t (T r) r)
    (ii : In k i) (was : t.child (T r).p i ≡ (T r).l) (w : SwapChild k u t t' (T r).p i (T r).third) where
  -- a key that stood in l, as a key of the set
  in_l : {y : ℕ} → Memᴰ y (keys t (T r).l) → Holds k t y
  in_l mm = record { node = (T r).l; reached = l_in hk I h kd W ii was w; leaf = (I.good r h).leaf; has = mm }

  stays : {y : ℕ} → (Memᴰ y (keys t (T r).l) → Brings k t (T r).third y) → Holds k t y → Holds k t' y
  stays {y} f a = go (ℕ_discrete a.node (T r).l)
    where
      go : Dec (a.node ≡ (T r).l) → Holds k t' y
      go (yes e) = brought k (omega arith) (replace_of_lem hk I h kd W ii was w) (f (rw e at a.has))
      go (no e) = stayed k (omega arith) (replace_of_lem hk I h kd W ii was w) a e

  came_from : {y : ℕ} → (Brings k t (T r).third y → Holds k t y) → Holds k t' y → Holds k t y
  came_from {y} f a = go (after k (omega arith) (replace_of_lem hk I h kd W ii was w) I.uniq a)
    where
      go : ((b : Holds k t y) × (b.node ≢ (T r).l)) ⊎ Brings k t (T r).third y → Holds k t y
      go (inl b) = b.0
      go (inr b) = f b

  pub replace_set : SetMoves k t t' (T r)
  replace_set = go (eff hk I h kd W ii was w)
    where
      go : Effect k t (T r) → SetMoves k t t' (T r)
      go (puts op no₁ only all new) = adds op (
          record {
            absent = λ a. no₁ (rw (one_place I a (l_on hk I h kd W ii was w) (I.good r h).leaf) at a.has);
            present = brought k (omega arith) (replace_of_lem hk I h kd W ii was w) new;
            others = λ y d. (stays (all y), came_from (λ b. old y d (only y b)));
          }
          )
        where
          old : (y : ℕ) → y ≢ (T r).key → (y ≡ (T r).key) ⊎ Memᴰ y (keys t (T r).l) → Holds k t y
          old y d (inl e) = absurd (d e)
          old y d (inr mm) = in_l mm
      go (takes op mm only all) = removes op (
          record {
            present = in_l mm;
            absent = λ a. gone (after k (omega arith) (replace_of_lem hk I h kd W ii was w) I.uniq a);
            others = λ y d. (came_from (λ b. in_l (only y b).0), stays (λ b. all y b d));
          }
          )
        where
          gone : ((b : Holds k t (T r).key) × (b.node ≢ (T r).l)) ⊎ Brings k t (T r).third (T r).key → ⊥
          gone (inl b) = b.1 (one_place I b.0 (l_on hk I h kd W ii was w) (I.good r h).leaf)
          gone (inr b) = (only (T r).key b).1 refl

-- an empty leaf holds nothing
pub empty_row : (t : View) (n : ℕ) {y : ℕ} → t.tag n ≡ 0 → Memᴰ y (keys t n) → ⊥
unfolding keys listed
empty_row t n {y} e mm = Memᴰ.not-nil (none_of e mm)
  where
    none_of : t.tag n ≡ 0 → Memᴰ y (listed (t.key n) 1 (t.tag n)) → Memᴰ y []
    none_of a b = rw a at b

module _ {k u m : ℕ} {T : ℕ → Desc} {t t' : View} {r i : ℕ} (hk : 2 ≤ k) (I : Inv k u m T t) (h : In m r) (kd : (T r).kind ≡ 2)
    (M : Marked k t (T r) r)
    (ii : In k i) (was : t.child (T r).third i ≡ (T r).p) (w : SwapChild k u t t' (T r).third i M.fine.other) where
  l_holds : Holds k t (T r).key
  l_holds = record {
    node = (T r).l;
    reached =
        by (route k (t.key (T r).p) (T r).key) (p_in hk I h kd M ii was w) (I.good r h).inner (route_slot k _ (omega arith) (T r).key)
        (sym M.fine.l_at);
    leaf = (I.good r h).leaf;
    has = rw ((I.good r h).prune kd).alone (Memᴰ.head refl);
  }

  pub prune_set : Removed (Holds k t) (Holds k t') (T r).key
  unfolding Ordered l_holds
  prune_set = record {
    present = l_holds;
    absent = λ a. gone (prune_left k (omega arith) (prune_of_lem hk I h kd M ii was w) I.uniq a);
    others =
        λ y d. (
          λ a. (prune_left k (omega arith) (prune_of_lem hk I h kd M ii was w) I.uniq a).0,
          λ a. prune_kept k (omega arith) (prune_of_lem hk I h kd M ii was w) I.uniq I.ordered a (safe y d a),
        );
  }
    where
      gone : (b : Holds k t (T r).key) × Spared k t (T r).p M.fine.other b.node → ⊥
      gone b =
          let e : b.0.node ≡ (T r).l =
          one_place I b.0 (I.ordered _ _ l_holds.reached l_holds.leaf l_holds.has) (I.good r h).leaf in
          M.fine.other_l (sym (sym e ∙ b.1.not_kid (route k (t.key (T r).p) (T r).key) (route_slot k _ (omega arith) (T r).key)
          (e ∙ sym M.fine.l_at)))

      safe : (y : ℕ) → y ≢ (T r).key → (a : Holds k t y) → Spared k t (T r).p M.fine.other a.node
      safe y d a = record {
        not_p = λ e. a.leaf (rw e (I.good r h).inner);
        not_kid = λ j s e. go j s e (ℕ_discrete j M.fine.place) (ℕ_discrete j (route k (t.key (T r).p) (T r).key));
      }
        where
          go : (j : ℕ) → In k j → a.node ≡ t.child (T r).p j → Dec (j ≡ M.fine.place) → Dec (j ≡ route k (t.key (T r).p) (T r).key)
              → a.node ≡ M.fine.other
          go j s e (yes z) c = cc M.fine.other_at
          go j s e (no z) (yes c) =
              let f : a.node ≡ (T r).l = cc M.fine.l_at in
              absurd (d (Memᴰ.eq_of_singleton (rw (f, ((I.good r h).prune kd).alone) at a.has)))
          go j s e (no z) (no c) = absurd (empty_row t (t.child (T r).p j) (M.fine.rest_empty j s z c) (rw e at a.has))

module _ {k : ℕ} {S S' : Shared} (hk : 2 ≤ k) (I : Sound k S) where
  pub set_same : (c : Change k S S') → swaps k c ≡ 0 → SameSet k S.view S'.view
  unfolding swaps
  set_same (draw_replace r p d) z = pend_set hk I.inv d.flag
  set_same (draw_prune r gp d) z = pend_set hk I.inv d.flag
  set_same (swap_replace r i h kd s e w same) z = absurd (omega (arith, h.low))
  set_same (unflag_replace r h kd e d w same) z = pend_set hk I.inv w
  set_same (mark r h kd e w same) z = pend_set hk I.inv w
  set_same (swap_prune r i other h kd mk j sj ej full d s e w same) z = absurd (omega (arith, h.low))
  set_same (unflag_prune r h kd e d w same) z = pend_set hk I.inv w

  pub set_swap : (c : Change k S S') (r : ℕ) → swaps k c ≡ r → 1 ≤ r
      → SetMoves k S.view S'.view (S.rec r)
  unfolding swaps
  set_swap (draw_replace r p d) q z l = absurd (omega arith)
  set_swap (draw_prune r gp d) q z l = absurd (omega arith)
  set_swap (swap_replace r i h kd s e w same) q z l =
      rw (← z) (replace_set hk I.inv h kd (waiting (omega arith) I.inv r h kd s e) s e w)
  set_swap (unflag_replace r h kd e d w same) q z l = absurd (omega arith)
  set_swap (mark r h kd e w same) q z l = absurd (omega arith)
  set_swap (swap_prune r i other h kd mk j sj ej full d s e w same) q z l =
      let M = standing (omega arith) I.inv r h kd mk s e in
      rw (← z) (removes ((I.inv.good r h).prune kd).operation (prune_set hk I.inv h kd M s e (written M.fine j sj ej full d w)))
  set_swap (unflag_prune r h kd e d w same) q z l = absurd (omega arith)

  pub step_set_same : (c : Step k S S') → step_swaps k c ≡ 0 → SameSet k S.view S'.view
  unfolding step_swaps SameSet
  step_set_same (changes c) z = set_same c z
  step_set_same (rests e) z = paths_set S'.view hk I.inv e.tag_same e.key_same e.child_same

  pub step_set_swap : (c : Step k S S') (r : ℕ) → step_swaps k c ≡ r → 1 ≤ r
      → SetMoves k S.view S'.view (S.rec r)
  unfolding step_swaps
  step_set_swap (changes c) r z l = set_swap c r z l
  step_set_swap (rests e) r z l = absurd (omega arith)

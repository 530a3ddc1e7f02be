-- What a helper knows of its record: at 6, 7, 12, 13 by the child index, at 8 and 14 that it is done, at 11 the sibling noted so far.
use mathlib.Core.Path.{◌≡◌, refl, sym, ◌∙◌}
use mathlib.Core.Logic.{◌≢◌, ◌⊎◌, inl, inr}
use Prim.Native.Nat.{ℕ, suc, ◌+◌, ◌*◌, ◌≤◌, ◌<◌}
use native.Mathlib.Decide.{ℕ_discrete, dec_lt}
use native.Mathlib.Omega.{arith}
use Rattle.history.specs.View.{View, In, route, Reach}
use Rattle.history.specs.Effects.{Grown}
use Rattle.history.specs.Shared.{Shared, Done, replaced, pruned, Pair}
use Rattle.history.specs.Run.{Step}
use Rattle.history.proofs.Route.{route_slot}
use Rattle.history.proofs.Paths.{on_reach}
use Rattle.history.proofs.Invariant.{Status, waits, over, asks, stands_marked, finished, dropped, Sound}
use Rattle.history.proofs.Touch.{child_used}
use Rattle.history.proofs.Lasting.{grown, Frozen, frozen, done_stays}

-- a helper looks for child v of node n: l below p at 6 and 7, p below gp at 12 and 13. Where the record is not done, v is the child
-- for its key, and no other is v
pub data Searching (k : ℕ) (S : Shared) (r n v : ℕ) : Type 0 where
  all_done : Done k S.view (S.rec r) r → Searching k S r n v
  looking : S.view.child n (route k (S.view.key n) (S.rec r).key) ≡ v
      → ((i : ℕ) → In k i → S.view.child n i ≡ v → i ≡ route k (S.view.key n) (S.rec r).key) → Searching k S r n v

module _ {k : ℕ} {S : Shared} (hk : 2 ≤ k) (I : Sound k S) (r : ℕ) (h : In S.records r) where
  -- a node of the tree has v for a child once
  found_once : {n v : ℕ} → Reach k S.view n → S.view.tag n ≡ k → S.view.child n (route k (S.view.key n) (S.rec r).key) ≡ v
      → Searching k S r n v
  found_once {n} {v} o q at =
      looking at (λ i s z. (I.inv.uniq.one n i n (route k (S.view.key n) (S.rec r).key) o q s o q
      (route_slot k _ (omega arith) (S.rec r).key) (z ∙ sym at)).1)

  pub searching_replace : (S.rec r).kind ≡ 1 → Searching k S r (S.rec r).p (S.rec r).l
  searching_replace kd = go (I.inv.status r h)
    where
      go : Status k S.view (S.rec r) r → Searching k S r (S.rec r).p (S.rec r).l
      go (waits e v) = found_once (on_reach k (omega arith) v.on) (I.inv.good r h).inner v.at
      go (over e v) = all_done (replaced e v.no_child)
      go (asks e v) = absurd (omega arith)
      go (stands_marked e v) = absurd (omega arith)
      go (finished e v) = absurd (omega arith)
      go (dropped e v) = absurd (omega arith)

  -- once p is marked
  pub searching_prune : (S.rec r).kind ≡ 2 → S.view.pend (S.rec r).p ≡ 4 * r + 3 → Searching k S r (S.rec r).third (S.rec r).p
  searching_prune kd mk = go (I.inv.status r h)
    where
      go : Status k S.view (S.rec r) r → Searching k S r (S.rec r).third (S.rec r).p
      go (waits e v) = absurd (omega arith)
      go (over e v) = absurd (omega arith)
      go (asks e v) = absurd (v.unmarked mk)
      go (stands_marked e v) = found_once (on_reach k (omega arith) v.held.on) ((I.inv.good r h).prune kd).gp_inner v.held.at
      go (finished e v) = all_done (pruned e v.mark v.no_child)
      go (dropped e v) = absurd (v.unmarked mk)

  -- a marked p has the pair of children for ever
  pub pair_marked : (S.rec r).kind ≡ 2 → S.view.pend (S.rec r).p ≡ 4 * r + 3
      → Pair k S.view (S.rec r).key (S.rec r).p (S.rec r).l
  pair_marked kd mk = go (I.inv.status r h)
    where
      go : Status k S.view (S.rec r) r → Pair k S.view (S.rec r).key (S.rec r).p (S.rec r).l
      go (waits e v) = absurd (omega arith)
      go (over e v) = absurd (omega arith)
      go (asks e v) = absurd (v.unmarked mk)
      go (stands_marked e v) = v.fine
      go (finished e v) = v.fine
      go (dropped e v) = absurd (v.unmarked mk)

-- 6 and 12: the children before index i have been looked at
pub record Passed (k : ℕ) (S : Shared) (r n i : ℕ) : Type 0 where
  pub past : route k (S.view.key n) (S.rec r).key < i → Done k S.view (S.rec r) r

-- 7 and 13: the index is where the child is to be
pub data Placed (k : ℕ) (S : Shared) (r n i : ℕ) : Type 0 where
  at_route : i ≡ route k (S.view.key n) (S.rec r).key → Placed k S r n i
  or_done : Done k S.view (S.rec r) r → Placed k S r n i

module _ {k : ℕ} {S : Shared} (hk : 2 ≤ k) where
  pub passed_first : (r n : ℕ) → Passed k S r n 1
  passed_first r n = record {
    past = λ h. absurd (let s = route_slot k (S.view.key n) (omega arith) (S.rec r).key in omega (arith, s.low));
  }

  pub passed_next : {r n v i : ℕ} → Searching k S r n v → S.view.child n i ≢ v → Passed k S r n i → Passed k S r n (suc i)
  passed_next {r} {n} {v} {i} s d p = record { past = λ h. go h (dec_lt (route k (S.view.key n) (S.rec r).key) i) s }
    where
      go : route k (S.view.key n) (S.rec r).key < suc i → Dec (route k (S.view.key n) (S.rec r).key < i) → Searching k S r n v
          → Done k S.view (S.rec r) r
      go h (yes z) c = p.past z
      go h (no z) (all_done c) = c
      go h (no z) (looking at only) = let e : route k (S.view.key n) (S.rec r).key ≡ i = omega arith in absurd (d (rw e at at))

  -- after child k without a match
  pub passed_end : {r n : ℕ} → Passed k S r n (suc k) → Done k S.view (S.rec r) r
  passed_end {r} {n} p = p.past (let s = route_slot k (S.view.key n) (omega arith) (S.rec r).key in omega (arith, s.high))

  pub placed_found : {r n v i : ℕ} → Searching k S r n v → In k i → S.view.child n i ≡ v → Placed k S r n i
  placed_found (all_done c) h e = or_done c
  placed_found {i = i} (looking at only) h e = at_route (only i h e)

  -- the swap fails: somebody else has done it
  pub placed_missed : {r n v i : ℕ} → Searching k S r n v → Placed k S r n i → S.view.child n i ≢ v → Done k S.view (S.rec r) r
  placed_missed (all_done c) p e = c
  placed_missed (looking at only) (or_done d) e = d
  placed_missed (looking at only) (at_route z) e = absurd (e (rw z at))

module _ {k : ℕ} {S S' : Shared} (hk : 2 ≤ k) (I : Sound k S) (c : Step k S S') where
  route_same : (r n : ℕ) → In S.records r → In S.nodes n
      → route k (S'.view.key n) (S'.rec r).key ≡ route k (S.view.key n) (S.rec r).key
  route_same r n h hn = let g = grown hk I c in rw (g.key_same n hn, g.rec_same r h)

  pub passed_stays : {r n i : ℕ} → In S.records r → In S.nodes n → Passed k S r n i → Passed k S' r n i
  passed_stays {r} {n} {i} h hn p = record { past = λ a. done_stays hk I r c h (p.past (rw (route_same r n h hn) at a)) }

  pub placed_stays : {r n i : ℕ} → In S.records r → In S.nodes n → Placed k S r n i → Placed k S' r n i
  placed_stays {r} {n} {i} h hn (at_route e) = at_route (e ∙ sym (route_same r n h hn))
  placed_stays {r} {n} {i} h hn (or_done d) = or_done (done_stays hk I r c h d)

-- 11: of the children of p before index i, other is the one that is neither empty nor l, or 0 if there was none
pub data Noted (k : ℕ) (t : View) (p l i other : ℕ) : Type 0 where
  none_yet : other ≡ 0 → ((j : ℕ) → In k j → j < i → (t.child p j ≡ l) ⊎ (t.tag (t.child p j) ≡ 0)) → Noted k t p l i other
  noted : (j : ℕ) → In k j → j < i → t.child p j ≡ other → t.tag other ≢ 0 → other ≢ l → Noted k t p l i other

module _ {k : ℕ} {t : View} {p l : ℕ} where
  pub noted_first : Noted k t p l 1 0
  noted_first = none_yet refl (λ j s h. absurd (omega (arith, s.low)))

  -- an empty child, or l: nothing to note
  pub noted_skip : {i other : ℕ} → (t.child p i ≡ l) ⊎ (t.tag (t.child p i) ≡ 0) → Noted k t p l i other → Noted k t p l (suc i) other
  noted_skip {i} {other} a (none_yet z f) = none_yet z (λ j s h. go j s h (ℕ_discrete j i))
    where
      go : (j : ℕ) → In k j → j < suc i → Dec (j ≡ i) → (t.child p j ≡ l) ⊎ (t.tag (t.child p j) ≡ 0)
      go j s h (yes e) = rw e a
      go j s h (no e) = f j s (omega arith)
  noted_skip a (noted j s h e full d) = noted j s (omega arith) e full d

  pub noted-take : {i : ℕ} → In k i → t.tag (t.child p i) ≢ 0 → t.child p i ≢ l → Noted k t p l (suc i) (t.child p i)
  noted-take {i} s full d = noted i s (omega arith) refl full d

  module _ {x : ℕ} (v : Pair k t x p l) where
    place_of : (j : ℕ) → In k j → t.tag (t.child p j) ≢ 0 → t.child p j ≢ l → j ≡ v.place
    place_of j s full d = go (ℕ_discrete j v.place) (ℕ_discrete j (route k (t.key p) x))
      where
        go : Dec (j ≡ v.place) → Dec (j ≡ route k (t.key p) x) → j ≡ v.place
        go (yes e) c = e
        go (no e) (yes z) = absurd (d (rw z v.l_at))
        go (no e) (no z) = absurd (full (v.rest_empty j s e z))

    -- a second node is never met: other is still 0
    pub noted_second : {i other : ℕ} → In k i → t.tag (t.child p i) ≢ 0 → t.child p i ≢ l → Noted k t p l i other → other ≡ 0
    noted_second s full d (none_yet z f) = z
    noted_second {i} {other} s full d (noted j sj h e fj dj) =
        let a : j ≡ v.place = place_of j sj (rw e fj) (rw e dj) in
        let b : i ≡ v.place = place_of i s full d in
        absurd (omega arith)

    -- after child k there is one
    pub noted_end : {other : ℕ} → Noted k t p l (suc k) other → (j : ℕ) × In k j × (t.child p j ≡ other) × (t.tag other ≢ 0) × (other ≢ l)
    noted_end {other} (noted j s h e full d) = (j, s, e, full, d)
    noted_end {other} (none_yet z f) = absurd (go (f v.place v.place_in (omega (arith, v.place_in.high))))
      where
        go : (t.child p v.place ≡ l) ⊎ (t.tag (t.child p v.place) ≡ 0) → ⊥
        go (inl e) = v.other_l (sym v.other_at ∙ e)
        go (inr e) = v.other_full (rw v.other_at at e)

-- what was noted of a marked node stays
pub noted_stays : {k : ℕ} {S S' : Shared} {p l i other : ℕ} (q : ℕ) → 2 ≤ k → Sound k S → Step k S S' → In S.nodes p
    → S.view.tag p ≡ k → S.view.pend p ≡ 4 * q + 3
    → Noted k S.view p l i other → Noted k S'.view p l i other
noted_stays {k} {S} {S'} {p} {l} {i} {other} q hk I c h tp mk a = go a (frozen hk I p q c h mk) (grown hk I c)
  where
    go : Noted k S.view p l i other → Frozen k S S' p → Grown S S' → Noted k S'.view p l i other
    go (none_yet z f) w g = none_yet z (λ j s b. one j s (f j s b))
      where
        one : (j : ℕ) → In k j → (S.view.child p j ≡ l) ⊎ (S.view.tag (S.view.child p j) ≡ 0)
            → (S'.view.child p j ≡ l) ⊎ (S'.view.tag (S'.view.child p j) ≡ 0)
        one j s (inl e) = inl (w.kids_same j s ∙ e)
        one j s (inr e) = inr (rw (w.kids_same j s) (g.tag_same (S.view.child p j) (child_used I.inv.shape p j h tp s) ∙ e))
    go (noted j s b e full d) w g =
        noted j s b (w.kids_same j s ∙ e) (rw (g.tag_same other (rw e at (child_used I.inv.shape p j h tp s))) full) d

-- What a process knows on its way down, points 1 to 5: each fact holds on under every step, each read adds one, and what they give at a swap.
use mathlib.Core.Path.{◌≡◌, refl, sym, ◌∙◌}
use mathlib.Core.Logic.{◌≢◌}
use mathlib.Core.List.{[], ◌∷◌, Memᴰ}
use Prim.Native.Nat.{ℕ, suc, ◌+◌, ◌*◌, ◌≤◌, ◌<◌}
use native.Mathlib.Decide.{ℕ_discrete}
use native.Mathlib.Omega.{arith}
use Rattle.tables.specs.Numbers.{infinity}
use Rattle.history.specs.View.{In, route, keys, On, root, Reach, by, Holds}
use Rattle.history.specs.Shared.{Shared, Pair}
use Rattle.history.specs.Change.{rank}
use Rattle.history.specs.Run.{Step, Run, Moment}
use Rattle.history.proofs.Route.{route_slot}
use Rattle.history.proofs.Paths.{on_reach}
use Rattle.history.proofs.Invariant.{Word, Sound}
use Rattle.history.proofs.Touch.{older_at}
use Rattle.history.proofs.Draws.{root_child}
use Rattle.history.proofs.Brings.{keys_alone}
use Rattle.history.proofs.Keep.{touched}
use Rattle.history.proofs.Lasting.{grown, frozen}
use Rattle.history.proofs.Runs.{sound_at}
use Rattle.history.proofs.SearchPath.{later, was_used, was_on, was_read, read_has, read_lacks}
use Rattle.history.proofs.Pairs.{full, full_count, full_no, full_most, pair_of}
use Rattle.history.proofs.Remember.{Seen, seen_more, seen_child, seen_count, word_stays}

-- an internal node that was on the path of x at a moment since the start
pub record Way (k : ℕ) (S : ℕ → Shared) (i j x n : ℕ) : Type 0 where
  pub was : Moment i j (λ m. On k (S m).view x n)
  pub used : In (S j).nodes n
  pub inner : (S j).view.tag n ≡ k

-- w was read from n's pending: a good word, no older one is there, and a mark still is
pub record Read (s : Shared) (n w : ℕ) : Type 0 where
  pub word : Word s.records s.rec n w
  pub age : rank w ≤ rank (s.view.pend n)
  pub mark : (q : ℕ) → w ≡ 4 * q + 3 → s.view.pend n ≡ w

-- the parent on the way: p was its child for x when its pending was the word read, if that was clean
pub record Up (k : ℕ) (S : ℕ → Shared) (i j x gp p gseen : ℕ) : Type 0 where
  pub way : Way k S i j x gp
  pub below : gp < p
  pub read : Read (S j) gp gseen
  pub link : (e : ℕ) → gseen ≡ 4 * e → Seen (S j).view gp e ((S j).view.child gp (route k ((S j).view.key gp) x) ≡ p)

-- the root has none
pub data Above (k : ℕ) (S : ℕ → Shared) (i j x gp p gseen : ℕ) : Type 0 where
  at_root : gp ≡ 0 → p ≡ 1 → Above k S i j x gp p gseen
  above : Up k S i j x gp p gseen → Above k S i j x gp p gseen

-- a leaf reached through p, whose pending was clean with record e when it was read
pub record AtLeaf (k : ℕ) (S : ℕ → Shared) (i j x p l e : ℕ) : Type 0 where
  pub way : Way k S i j x p
  pub low : 2 ≤ p
  pub was : Moment i j (λ m. On k (S m).view x l)
  pub used : In (S j).nodes l
  pub leaf : (S j).view.tag l ≢ k
  pub under : p < l
  pub link : Seen (S j).view p e ((S j).view.child p (route k ((S j).view.key p) x) ≡ l)

-- 3: the children before index a have been looked at, and ones of them were not empty
pub record Counted (s : Shared) (p e a ones : ℕ) : Type 0 where
  pub count : Seen s.view p e (full_count s.view p a ≡ ones)
  pub dummy : p ≡ 2 → ones ≤ 1
  pub none_yet : a ≡ 0 → ones ≡ 0

-- what a draw asks, at 4
pub record ReplaceReady (k : ℕ) (s : Shared) (x p l : ℕ) : Type 0 where
  pub on : On k s.view x p
  pub at : s.view.child p (route k (s.view.key p) x) ≡ l

-- and at 5; on p's side what was seen holds if its pending is the expected word
pub record PruneReady (k : ℕ) (s : Shared) (x gp p l e : ℕ) : Type 0 where
  pub on : On k s.view x gp
  pub at : s.view.child gp (route k (s.view.key gp) x) ≡ p
  pub age : rank (4 * e) ≤ rank (s.view.pend p)
  pub fine : s.view.pend p ≡ 4 * e → Pair k s.view x p l
  pub past_dummy : 2 < p
  pub alone : keys s.view l ≡ x ∷ []

pub read_now : {k : ℕ} {s : Shared} {n : ℕ} → Sound k s → In s.nodes n → Read s n (s.view.pend n)
read_now {k} {s} {n} I h = record { word = I.inv.pending n h; age = omega arith; mark = λ q e. refl }

module _ {k : ℕ} {s s' : Shared} (hk : 2 ≤ k) (I : Sound k s) (c : Step k s s') where
  pub read_stays : {n w : ℕ} → In s.nodes n → Read s n w → Read s' n w
  read_stays {n} {w} h r = record {
    word = word_stays hk I c r.word;
    age = omega (arith, r.age, older_at (omega arith) I.inv (touched hk I c).touch n h);
    mark = λ q e. kept q e (r.mark q e);
  }
    where
      kept : (q : ℕ) → w ≡ 4 * q + 3 → s.view.pend n ≡ w → s'.view.pend n ≡ w
      kept q e z = (frozen hk I n q c h (z ∙ e)).pend_same ∙ z

  pub counted_stays : {p e a ones : ℕ} → In s.nodes p → s.view.tag p ≡ k → a ≤ k → Counted s p e a ones → Counted s' p e a ones
  counted_stays {p} {e} {a} {ones} h q l w = record {
    count = seen_count hk I c a ones h q l w.count;
    dummy = w.dummy;
    none_yet = w.none_yet;
  }

module _ {k : ℕ} {S : ℕ → Shared} {i j : ℕ} (hk : 2 ≤ k) (I : Sound k (S j)) (c : Step k (S j) (S (suc j))) where
  pub way_stays : {x n : ℕ} → Way k S i j x n → Way k S i (suc j) x n
  way_stays {x} {n} w =
      let g = grown hk I c in
      record {
        was = later (omega arith) w.was;
        used = omega (arith, w.used, g.nodes_more);
        inner = g.tag_same n w.used ∙
            w.inner;
      }

  pub up_stays : {x gp p gseen : ℕ} → Up k S i j x gp p gseen → Up k S i (suc j) x gp p gseen
  up_stays {x} {gp} {p} u = record {
    way = way_stays u.way;
    below = u.below;
    read = read_stays hk I c u.way.used u.read;
    link = λ e z. seen_child hk I c x p u.way.used (u.link e z);
  }

  pub above_stays : {x gp p gseen : ℕ} → Above k S i j x gp p gseen → Above k S i (suc j) x gp p gseen
  above_stays (at_root a b) = at_root a b
  above_stays (above u) = above (up_stays u)

  pub leaf_stays : {x p l e : ℕ} → AtLeaf k S i j x p l e → AtLeaf k S i (suc j) x p l e
  leaf_stays {x} {p} {l} {e} a =
      let g = grown hk I c in
      record {
        way = way_stays a.way;
        low = a.low;
        was = later (omega arith) a.was;
        used = omega (arith, a.used, g.nodes_more);
        leaf = rw (g.tag_same l a.used) a.leaf;
        under = a.under;
        link = seen_child hk I c x l a.way.used a.link;
      }

module _ {k : ℕ} {S : ℕ → Shared} {j : ℕ} (hk : 2 ≤ k) (R : Run k S j) (I₀ : Sound k (S 0)) where
  sound : Sound k (S j)
  sound = sound_at hk R I₀ j (omega arith)

  -- a start, at moment i = j
  pub way_root : (x : ℕ) → Way k S j j x 1
  way_root x = record {
    was = record { when = j; from = omega arith; to = omega arith; holds = root refl };
    used = omega (arith, sound.inv.shape.room);
    inner = sound.inv.shape.crown.root_inner;
  }

  -- 2: c is read as the child of p for x
  module _ {i x p c : ℕ} (w : Way k S i j x p) (got : (S j).view.child p (route k ((S j).view.key p) x) ≡ c) where
    child_was : Moment i j (λ m. On k (S m).view x c)
    child_was = was_read hk R I₀ i j x p c (omega arith) w.was w.inner (sym got)

    pub child_used : In (S j).nodes c
    child_used = was_used hk R I₀ i j x c (omega arith) child_was

    pub child_above : p < c
    child_above =
        rw got at (sound.inv.shape.above p (route k ((S j).view.key p) x) w.used w.inner (route_slot k _ (omega arith) x))

    -- an internal one: gp takes p, p takes the child, the pending value moves along
    pub go_down : (S j).view.tag c ≡ k → Way k S i j x c
    go_down q = record { was = child_was; used = child_used; inner = q }

    pub up_from : {pseen : ℕ} → Read (S j) p pseen → Up k S i j x p c pseen
    up_from r = record { way = w; below = child_above; read = r; link = λ e z. record { age = rw z at r.age; holds = λ y. got } }

    -- a leaf: never straight below the root; find answers by it, insert and delete say no by it
    pub leaf_below : x < infinity → (S j).view.tag c ≢ k → 2 ≤ p
    leaf_below fin q = go (ℕ_discrete p 1)
      where
        go : Dec (p ≡ 1) → 2 ≤ p
        go (yes e) = absurd (q (cc (root_child hk sound.inv p x fin e, sound.inv.shape.crown.dummy_inner)))
        go (no e) = omega (arith, w.used)

    pub leaf_has : (S j).view.tag c ≢ k → Memᴰ x (keys (S j).view c) → Moment i j (λ m. Holds k (S m).view x)
    leaf_has q m = read_has hk R I₀ i j x c (omega (arith, child_was.from, child_was.to)) (omega arith) child_was q m

    pub leaf_lacks : (S j).view.tag c ≢ k → ¬ Memᴰ x (keys (S j).view c) → Moment i j (λ m. ¬ Holds k (S m).view x)
    leaf_lacks q m = read_lacks hk R I₀ i j x c (omega (arith, child_was.from, child_was.to)) (omega arith) child_was q m

    -- and with p's pending clean when it was read, the way is ready for 3 or 4
    pub leaf_met_lem : (e : ℕ) → Read (S j) p (4 * e) → x < infinity → (S j).view.tag c ≢ k → AtLeaf k S i j x p c e
    leaf_met_lem e r fin q = record {
      way = w;
      low = leaf_below fin q;
      was = child_was;
      used = child_used;
      leaf = q;
      under = child_above;
      link = record { age = r.age; holds = λ y. got };
    }

  -- a clean word found again: the node is on the path
  on_now : {i x n : ℕ} (c : ℕ) → Way k S i j x n → (S j).view.pend n ≡ 4 * c → On k (S j).view x n
  on_now {i} {x} {n} c w e = was_on hk R I₀ i j x n (omega arith) w.was w.inner (λ q z. omega arith)

  -- 4: the swap succeeds
  pub replace_ready : {i x p l e : ℕ} → AtLeaf k S i j x p l e → (S j).view.pend p ≡ 4 * e → ReplaceReady k (S j) x p l
  replace_ready {e = e} a z = record { on = on_now e a.way z; at = a.link.holds z }

  -- 5: the swap succeeds
  pub prune_ready : {i x gp p l e : ℕ} (g : ℕ) → AtLeaf k S i j x p l e → Up k S i j x gp p (4 * g) → Counted (S j) p e k 2
      → (S j).view.tag l ≡ 1 → Memᴰ x (keys (S j).view l) → (S j).view.pend gp ≡ 4 * g
      → PruneReady k (S j) x gp p l e
  prune_ready {i} {x} {gp} {p} {l} {e} g a u w f m y = record {
    on = on;
    at = at;
    age = a.link.age;
    fine =
        λ b. pair_of x p l (omega arith) sound.inv.uniq p_in a.way.inner (a.link.holds b) (λ z. omega arith) (w.count.holds b);
    past_dummy = past (ℕ_discrete p 2);
    alone = keys_alone (S j).view l x f m;
  }
    where
      on : On k (S j).view x gp
      on = on_now g u.way y

      at : (S j).view.child gp (route k ((S j).view.key gp) x) ≡ p
      at = (u.link g refl).holds y

      p_in : Reach k (S j).view p
      p_in = by (route k ((S j).view.key gp) x) (on_reach k (omega arith) on) u.way.inner (route_slot k _ (omega arith) x) (sym at)

      past : Dec (p ≡ 2) → 2 < p
      past (yes b) = absurd (omega (arith, w.dummy b))
      past (no b) = omega (arith, a.low)

  -- 3: at its start, and one child read
  pub count_start : {i x p l e : ℕ} → AtLeaf k S i j x p l e → Counted (S j) p e 0 0
  unfolding full_count
  count_start a = record { count = record { age = a.link.age; holds = λ z. refl }; dummy = λ z. omega arith; none_yet = λ z. refl }

  pub count_next : {i x p l e a ones : ℕ} → AtLeaf k S i j x p l e → a < k → Counted (S j) p e a ones
      → Counted (S j) p e (suc a) (full ((S j).view.tag ((S j).view.child p (suc a))) + ones)
  unfolding full_count
  count_next {i} {x} {p} {l} {e} {a} {ones} v h w = record {
    count = seen_more w.count (λ (z : full_count (S j).view p a ≡ ones). rw z);
    dummy = λ z. low z (ℕ_discrete a 0);
    none_yet = λ z. absurd (omega arith);
  }
    where
      low : p ≡ 2 → Dec (a ≡ 0) → full ((S j).view.tag ((S j).view.child p (suc a))) + ones ≤ 1
      low z (yes y) = omega (arith, full_most ((S j).view.tag ((S j).view.child p (suc a))), w.none_yet y)
      low z (no y) =
          let b : (S j).view.tag ((S j).view.child p (suc a)) ≡ 0 = rw z (sound.inv.shape.crown.dummy_rest (suc a) (omega arith) h) in
          omega (arith, full_no ((S j).view.tag ((S j).view.child p (suc a))) b, w.dummy z)

-- The search-path lemma, and what a search read: it was there at a moment between.
use mathlib.Core.Path.{◌≡◌, sym, ◌∙◌}
use mathlib.Core.Logic.{◌≢◌, ◌⊎◌, inl, inr}
use mathlib.Core.List.{Memᴰ}
use Prim.Native.Nat.{ℕ, zero, suc, ◌+◌, ◌*◌, ◌/◌, ◌%◌, ◌≤◌}
use native.Mathlib.Decide.{ℕ_discrete}
use native.Mathlib.Omega.{arith}
use Rattle.history.specs.View.{In, route, keys, On, Holds}
use Rattle.history.specs.Effects.{Grown}
use Rattle.history.specs.Shared.{Shared}
use Rattle.history.specs.Run.{Run, Moment}
use Rattle.history.proofs.Route.{route_slot}
use Rattle.history.proofs.Paths.{keys_same, on_down, on_reach}
use Rattle.history.proofs.Invariant.{Sound}
use Rattle.history.proofs.Touch.{reach_used}
use Rattle.history.proofs.SetLaws.{one_place}
use Rattle.history.proofs.Lasting.{Frozen, frozen, stays_on}
use Rattle.history.proofs.Runs.{sound_at, grown_at}

-- is a word a mark?
pub marked? : (w : ℕ) → ((q : ℕ) × (w ≡ 4 * q + 3)) ⊎ ((q : ℕ) → w ≢ 4 * q + 3)
marked? w = go (ℕ_discrete (w % 4) 3)
  where
    go : Dec (w % 4 ≡ 3) → ((q : ℕ) × (w ≡ 4 * q + 3)) ⊎ ((q : ℕ) → w ≢ 4 * q + 3)
    go (yes e) = inl (w / 4, omega arith)
    go (no e) = inr (λ q z. e (omega arith))

pub later : {i j j' : ℕ} {P : ℕ → Type 0} → j ≤ j' → Moment i j P → Moment i j' P
later h m = record { when = m.when; from = m.from; to = omega (arith, m.to); holds = m.holds }

-- at that moment n was on the path of x, with the very children that it has at j
pub record Last (k : ℕ) (S : ℕ → Shared) (x n j when : ℕ) : Type 0 where
  pub on : On k (S when).view x n
  pub kids : (a : ℕ) → In k a → (S j).view.child n a ≡ (S when).view.child n a

-- n has left the path of x: it is marked, for ever
pub record Left (k : ℕ) (S : ℕ → Shared) (x n i j : ℕ) : Type 0 where
  pub for : ℕ
  pub mark : (S j).view.pend n ≡ 4 * for + 3
  pub last : Moment i j (Last k S x n j)

module _ {k : ℕ} {S : ℕ → Shared} {end : ℕ} (hk : 2 ≤ k) (R : Run k S end) (I₀ : Sound k (S 0)) where
  -- the heart: an internal node that was on the path of x still is, or it is marked, and it was on the path with the children that it has now
  pub search_path : (i j x n : ℕ) → i ≤ j → j ≤ end → (S i).view.tag n ≡ k → On k (S i).view x n → On k (S j).view x n ⊎ Left k S x n i j
  search_path i zero x n h hj q o = let z : i ≡ 0 = omega arith in inl (rw z at o)
  search_path i (suc j) x n h hj q o = go (ℕ_discrete i (suc j)) (λ (d : i ≤ j). search_path i j x n d (omega arith) q o)
    where
      hn : In (S i).nodes n
      hn = reach_used (omega arith) (sound_at hk R I₀ i (omega arith)).inv.shape (on_reach k (omega arith) o)

      next : i ≤ j → On k (S j).view x n ⊎ Left k S x n i j → On k (S (suc j)).view x n ⊎ Left k S x n i (suc j)
      next d (inl a) = pick (marked? ((S j).view.pend n))
        where
          pick : ((q : ℕ) × ((S j).view.pend n ≡ 4 * q + 3)) ⊎ ((q : ℕ) → (S j).view.pend n ≢ 4 * q + 3)
              → On k (S (suc j)).view x n ⊎ Left k S x n i (suc j)
          pick (inr free) =
              inl (stays_on hk (sound_at hk R I₀ j (omega arith)) (R.step j hj) a
              ((grown_at hk R I₀ i j d (omega arith)).tag_same n hn ∙ q) free)
          pick (inl m) =
              inr (still (frozen hk (sound_at hk R I₀ j (omega arith)) n m.0 (R.step j hj)
              (omega (arith, (grown_at hk R I₀ i j d (omega arith)).nodes_more, hn)) m.1))
            where
              still : Frozen k (S j) (S (suc j)) n → Left k S x n i (suc j)
              still f = record {
                for = m.0;
                mark = f.pend_same ∙ m.1;
                last = record { when = j; from = d; to = omega arith; holds = record { on = a; kids = f.kids_same } };
              }
      next d (inr l) =
          inr (still (frozen hk (sound_at hk R I₀ j (omega arith)) n l.for (R.step j hj)
          (omega (arith, (grown_at hk R I₀ i j d (omega arith)).nodes_more, hn)) l.mark))
        where
          still : Frozen k (S j) (S (suc j)) n → Left k S x n i (suc j)
          still f = record {
            for = l.for;
            mark = f.pend_same ∙ l.mark;
            last =
                record {
                  when = l.last.when;
                  from = l.last.from;
                  to = omega (arith, l.last.to);
                  holds = record
                      { on = l.last.holds.on; kids = λ a b. f.kids_same a b ∙ l.last.holds.kids a b };
                };
          }

      go : Dec (i ≡ suc j) → (i ≤ j → On k (S j).view x n ⊎ Left k S x n i j) → On k (S (suc j)).view x n ⊎ Left k S x n i (suc j)
      go (yes z) ih = inl (rw z at o)
      go (no z) ih = let d : i ≤ j = omega arith in next d (ih d)

  -- what is read at j as the child for x of a node that was on the path of x at i, was on that path at a moment from i to j
  pub read_child_lem : (i j x p l : ℕ) → i ≤ j → j ≤ end → (S i).view.tag p ≡ k → On k (S i).view x p
      → l ≡ (S j).view.child p (route k ((S j).view.key p) x)
      → Moment i j (λ m. On k (S m).view x l)
  read_child_lem i j x p l h hj q o e = go (search_path i j x p h hj q o)
    where
      hp : In (S i).nodes p
      hp = reach_used (omega arith) (sound_at hk R I₀ i (omega arith)).inv.shape (on_reach k (omega arith) o)

      key_at : (m : ℕ) → i ≤ m → m ≤ j → (S m).view.key p ≡ (S j).view.key p
      key_at m a b = sym ((grown_at hk R I₀ m j b hj).key_same p (omega (arith, hp, (grown_at hk R I₀ i m a (omega arith)).nodes_more)))

      at : (m : ℕ) → i ≤ m → m ≤ j → On k (S m).view x p → l ≡ (S m).view.child p (route k ((S j).view.key p) x) → On k (S m).view x l
      at m a b c f = on_down k {m = p} c ((grown_at hk R I₀ i m a (omega arith)).tag_same p hp ∙ q) (rw (key_at m a b) f)

      go : On k (S j).view x p ⊎ Left k S x p i j → Moment i j (λ m. On k (S m).view x l)
      go (inl a) = record { when = j; from = h; to = omega arith; holds = at j h (omega arith) a e }
      go (inr f) = record {
        when = f.last.when;
        from = f.last.from;
        to = f.last.to;
        holds =
            at f.last.when f.last.from f.last.to f.last.holds.on
            (e ∙ f.last.holds.kids _ (route_slot k _ (omega arith) x));
      }

  -- a node that was on a path is in use for ever, and its tag and keys at j are those it had then
  module _ (i j x n : ℕ) (hj : j ≤ end) (c : Moment i j (λ m. On k (S m).view x n)) where
    since : Grown (S c.when) (S j)
    since = grown_at hk R I₀ c.when j c.to hj

    used_then : In (S c.when).nodes n
    used_then = reach_used (omega arith) (sound_at hk R I₀ c.when (omega (arith, c.to))).inv.shape (on_reach k (omega arith) c.holds)

    pub was_used : In (S j).nodes n
    was_used = omega (arith, used_then, since.nodes_more)

    tag_then : (S j).view.tag n ≡ (S c.when).view.tag n
    tag_then = since.tag_same n used_then

    keys_then : keys (S j).view n ≡ keys (S c.when).view n
    keys_then = keys_same (S c.when).view (S j).view n tag_then (since.key_same n used_then)

  -- a leaf so read tells whether x was in the set at a moment from i to j
  pub read_has : (i j x l : ℕ) → i ≤ j → j ≤ end → Moment i j (λ m. On k (S m).view x l) → (S j).view.tag l ≢ k
      → Memᴰ x (keys (S j).view l) → Moment i j (λ m. Holds k (S m).view x)
  read_has i j x l h hj c leaf has = record {
    when = c.when;
    from = c.from;
    to = c.to;
    holds = record {
      node = l;
      reached = on_reach k (omega arith) c.holds;
      leaf = rw (tag_then i j x l hj c) at leaf;
      has = rw (keys_then i j x l hj c) at has;
    };
  }

  pub read_lacks : (i j x l : ℕ) → i ≤ j → j ≤ end → Moment i j (λ m. On k (S m).view x l) → (S j).view.tag l ≢ k
      → ¬ Memᴰ x (keys (S j).view l) → Moment i j (λ m. ¬ Holds k (S m).view x)
  read_lacks i j x l h hj c leaf lacks = record {
    when = c.when;
    from = c.from;
    to = c.to;
    holds =
        λ a. lacks (rw (
          keys_then i j x l hj c,
          ← one_place
              (sound_at hk R I₀ c.when (omega (arith, c.to))).inv a c.holds (rw (tag_then i j x l hj c) at leaf),
        ) a.has);
  }

  -- an internal node that was on the path of x and is not marked is on it
  pub was_on : (i j x n : ℕ) → j ≤ end → Moment i j (λ m. On k (S m).view x n) → (S j).view.tag n ≡ k
      → ((q : ℕ) → (S j).view.pend n ≢ 4 * q + 3) → On k (S j).view x n
  was_on i j x n hj c q free = go (search_path c.when j x n c.to hj (sym (tag_then i j x n hj c) ∙ q) c.holds)
    where
      go : On k (S j).view x n ⊎ Left k S x n c.when j → On k (S j).view x n
      go (inl o) = o
      go (inr l) = absurd (free l.for l.mark)

  -- the child for x, read at j, of a node that was on the path of x, was on it too
  pub was_read : (i j x p l : ℕ) → j ≤ end → Moment i j (λ m. On k (S m).view x p) → (S j).view.tag p ≡ k
      → l ≡ (S j).view.child p (route k ((S j).view.key p) x)
      → Moment i j (λ m. On k (S m).view x l)
  was_read i j x p l hj c q e = go (read_child_lem c.when j x p l c.to hj (sym (tag_then i j x p hj c) ∙ q) c.holds e)
    where
      go : Moment c.when j (λ m. On k (S m).view x l) → Moment i j (λ m. On k (S m).view x l)
      go a = record { when = a.when; from = omega (arith, a.from, c.from); to = a.to; holds = a.holds }

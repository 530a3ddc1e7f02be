-- Search paths and the tree: a search ends in one leaf, one parent, and paths through tables that agree.
use mathlib.Core.Path.{◌≡◌, sym, ◌∙◌}
use mathlib.Core.Logic.Dec
use mathlib.Core.Logic.{◌≢◌, ◌⊎◌, inl, inr}
use Prim.Native.Nat.{ℕ, zero, suc, ◌≤◌, ◌<◌}
use native.Mathlib.Decide.{ℕ_discrete}
use native.Mathlib.Omega.{arith}
use Rattle.history.specs.View.{View, In, route, keys, On, root, down, Reach, top, by, Ordered}
use Rattle.history.proofs.Route.{tri, route_slot}

pub here? : (m p j i : ℕ) → Dec ((m ≡ p) × (j ≡ i))
here? m p j i = Dec.and (ℕ_discrete m p) (ℕ_discrete j i)

pub keys_same : (t t' : View) (n : ℕ) → t'.tag n ≡ t.tag n → t'.key n ≡ t.key n → keys t' n ≡ keys t n
unfolding keys
keys_same t t' n a b = rw (a, b)

-- no two child words of the tree name one node, and none names the root
pub record Uniq (k : ℕ) (t : View) : Type 0 where
  pub one : (m j m' j' : ℕ) → Reach k t m → t.tag m ≡ k → In k j → Reach k t m' → t.tag m' ≡ k → In k j' → t.child m j ≡ t.child m' j'
      → (m ≡ m') × (j ≡ j')
  pub not_root : (m j : ℕ) → Reach k t m → t.tag m ≡ k → In k j → t.child m j ≢ 1

module _ (k : ℕ) where
  pub on_down : {t : View} {x m n : ℕ} → On k t x m → t.tag m ≡ k → n ≡ t.child m (route k (t.key m) x) → On k t x n
  on_down o q e = down o q e

  pub on_reach : {t : View} {x n : ℕ} → 1 ≤ k → On k t x n → Reach k t n
  on_reach h (root e) = top e
  on_reach {t} {x} h (down {m = m} o q e) = by (route k (t.key m) x) (on_reach h o) q (route_slot k (t.key m) h x) e

  -- the d-th node of the search path of x
  nth_on : View → ℕ → ℕ → ℕ
  nth_on t x zero = 1
  nth_on t x (suc d) = t.child (nth_on t x d) (route k (t.key (nth_on t x d)) x)

  record Deep (t : View) (x n : ℕ) : Type 0 where
    depth : ℕ
    there : n ≡ nth_on t x depth
    inner : (e : ℕ) → e < depth → t.tag (nth_on t x e) ≡ k

  on_deep : {t : View} {x n : ℕ} → On k t x n → Deep t x n
  unfolding nth_on
  on_deep (root e) = record { depth = 0; there = e; inner = λ e h. absurd (omega arith) }
  on_deep {t} {x} {n} (down {m = m} o q e) = go (on_deep o)
    where
      go : Deep t x m → Deep t x n
      go d = record { depth = suc d.depth; there = rw d.there at e; inner = λ i h. ins i h (ℕ_discrete i d.depth) }
        where
          ins : (i : ℕ) → i < suc d.depth → Dec (i ≡ d.depth) → t.tag (nth_on t x i) ≡ k
          ins i h (yes z) = rw (z, ← d.there) q
          ins i h (no z) = d.inner i (omega arith)

  -- a search ends in one leaf
  pub leaf_one : {t : View} {x n m : ℕ} → On k t x n → On k t x m → t.tag n ≢ k → t.tag m ≢ k → n ≡ m
  leaf_one {t} {x} {n} {m} a b ln lm = go (on_deep a) (on_deep b)
    where
      go : Deep t x n → Deep t x m → n ≡ m
      go d e = which (tri d.depth e.depth)
        where
          which : (d.depth < e.depth) ⊎ ((e.depth < d.depth) ⊎ (d.depth ≡ e.depth)) → n ≡ m
          which (inl h) = absurd (ln (cc (d.there, e.inner d.depth h)))
          which (inr (inl h)) = absurd (lm (cc (e.there, d.inner e.depth h)))
          which (inr (inr h)) = cc

  -- a search for y that came to child i of p came by p
  pub came_by : {t : View} {p i l y : ℕ} → 1 ≤ k → Uniq k t → Reach k t p → t.tag p ≡ k → In k i → t.child p i ≡ l → On k t y l
      → On k t y p × (route k (t.key p) y ≡ i)
  came_by {t} {p} {i} {l} hk u pin pint ii was (root e) = absurd (u.not_root p i pin pint ii (cc))
  came_by {t} {p} {i} {l} {y} hk u pin pint ii was (down {m = m} o q e) =
      let z : (m ≡ p) × (route k (t.key m) y ≡ i) =
      u.one m (route k (t.key m) y) p i (on_reach hk o) q (route_slot k _ hk y) pin pint ii (cc) in
      (rw z.0 at o, cc)

  -- two tables that agree on the nodes up to u, where the first has its tree
  module _ (t t' : View) (u : ℕ) (low : (n : ℕ) → Reach k t n → In u n) (tag_same : (n : ℕ) → In u n → t'.tag n ≡ t.tag n)
      (child_same : (n j : ℕ) → In u n → In k j → t'.child n j ≡ t.child n j) where
    pub same_reach : {n : ℕ} → Reach k t n → Reach k t' n
    same_reach (top e) = top e
    same_reach (by {m = m} j o q s e) = let h : In u m = low m o in by j (same_reach o) (tag_same m h ∙ q) s (e ∙ sym (child_same m j h s))

    pub same_reach_back : {n : ℕ} → Reach k t' n → Reach k t n
    same_reach_back (top e) = top e
    same_reach_back {n} (by {m = m} j o q s e) = go (same_reach_back o)
      where
        go : Reach k t m → Reach k t n
        go a = let h : In u m = low m a in by j a (sym (tag_same m h) ∙ q) s (e ∙ child_same m j h s)

    pub same_uniq : Uniq k t → Uniq k t'
    same_uniq un = record { one = both; not_root = notr }
      where
        notr : (m j : ℕ) → Reach k t' m → t'.tag m ≡ k → In k j → t'.child m j ≢ 1
        notr m j o q s z =
            let a = same_reach_back o in
            let h : In u m = low m a in
            un.not_root m j a (sym (tag_same m h) ∙ q) s (sym (child_same m j h s) ∙ z)

        both : (m j m' j' : ℕ) → Reach k t' m → t'.tag m ≡ k → In k j → Reach k t' m' → t'.tag m' ≡ k → In k j'
            → t'.child m j ≡ t'.child m' j' → (m ≡ m') × (j ≡ j')
        both m j m' j' o q s o' q' s' e =
            let a = same_reach_back o in
            let a' = same_reach_back o' in
            let h : In u m = low m a in
            let h' : In u m' = low m' a' in
            un.one m j m' j' a (sym (tag_same m h) ∙ q) s a' (sym (tag_same m' h') ∙ q') s'
            (sym (child_same m j h s) ∙ e ∙ child_same m' j' h' s')

    module _ (hk : 1 ≤ k) (key_same : (n : ℕ) → In u n → t'.key n ≡ t.key n) where
      pub same_on : {x n : ℕ} → On k t x n → On k t' x n
      same_on (root e) = root e
      same_on {x} {n} (down {m = m} o q e) =
          let h : In u m = low m (on_reach hk o) in
          on_down {m = m} {n = n} (same_on o) (tag_same m h ∙ q)
          (rw (key_same m h) (e ∙ sym (child_same m (route k (t.key m) x) h (route_slot k _ hk x))))

      pub same_ordered : Ordered k t → Ordered k t'
      unfolding Ordered
      same_ordered ord n x o q m =
          let a = same_reach_back o in
          let h : In u n = low n a in
          same_on (ord n x a (rw (tag_same n h) at q) (rw (keys_same t t' n (tag_same n h) (key_same n h)) at m))

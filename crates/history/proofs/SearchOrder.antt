-- Search order as a reader knows it: what stands below child i of an internal node is what a search takes to child i.
use mathlib.Core.Path.{◌≡◌, refl, sym}
use mathlib.Core.Logic.{◌≢◌}
use mathlib.Core.List.{Memᴰ}
use Prim.Native.Nat.{ℕ, ◌≤◌}
use Rattle.history.specs.View.{View, In, route, keys, On, Below, top, by, Reach, Ordered}
use Rattle.history.proofs.Paths.{Uniq, came_by}

module _ {k : ℕ} {t : View} where
  pub below_reach : {a b n : ℕ} → Below k t a b → Below k t b n → Below k t a n
  below_reach o (top e) = rw e o
  below_reach o (by j b q s e) = by j (below_reach o b) q s e

  -- a search that comes to a node below a has come by a
  pub below_on : {a n y : ℕ} → 1 ≤ k → Uniq k t → Reach k t a → Below k t a n → On k t y n → On k t y a
  below_on hk u o (top e) p = rw e at p
  below_on hk u o (by {m = m} j b q s e) p = below_on hk u o b (came_by k hk u (below_reach o b) q s (sym e) p).0

  pub figure_3 : 1 ≤ k → Uniq k t → Ordered k t → (n i l x : ℕ) → Reach k t n → t.tag n ≡ k → In k i → Below k t (t.child n i) l
      → t.tag l ≢ k → Memᴰ x (keys t l)
      → route k (t.key n) x ≡ i
  unfolding Ordered
  figure_3 hk u ord n i l x o q s b leaf m =
      let c : Reach k t (t.child n i) = by i o q s refl in
      (came_by k hk u o q s refl (below_on hk u c b (ord l x (below_reach c b) leaf m))).1

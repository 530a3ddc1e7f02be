-- The child for a key: it is a child index, it goes with the order of keys, and where it is known.
use mathlib.Core.Path.{◌≡◌, ap}
use mathlib.Core.Bool.{Bool, true, false}
use mathlib.Core.Logic.{◌⊎◌, inl, inr}
use mathlib.Core.List.{List}
use Prim.Native.Nat.{ℕ, zero, suc, ◌+◌, ◌-◌, ◌≤◌, ◌<◌}
use native.Mathlib.Decide.{dec_lt}
use native.Mathlib.Omega.{arith}
use lib.Dec.{T, ltb, ltb→lt, nltb→le}
use Rattle.tables.specs.Choice.{pick, listed}
use Rattle.nodes.specs.Keys.{first_at, greater_at}
use Rattle.tables.proofs.Lists.{listed_ext}
use Rattle.history.specs.View.{In, route}

pub tri : (i j : ℕ) → (i < j) ⊎ ((j < i) ⊎ (i ≡ j))
tri i j = go (dec_lt i j) (dec_lt j i)
  where
    go : Dec (i < j) → Dec (j < i) → (i < j) ⊎ ((j < i) ⊎ (i ≡ j))
    go (yes h) d = inl h
    go (no h) (yes g) = inr (inl g)
    go (no h) (no g) = inr (inr (omega arith))

-- what the search for the first key above x found, from index i on, with d keys to look at
record Found (f : ℕ → ℕ) (x d i j : ℕ) : Type 0 where
  low : i ≤ j
  high : j ≤ i + d
  past : (a : ℕ) → i ≤ a → a < j → f a ≤ x
  here : j < i + d → x < f j

found : (f : ℕ → ℕ) (x d i : ℕ) → Found f x d i (greater_at x (listed f i d) + i)
unfolding listed first_at pick
found f x zero i = record { low = omega arith; high = omega arith; past = λ a h g. absurd (omega arith); here = λ h. absurd (omega arith) }
found f x (suc d) i = go (ltb x (f i)) (λ t. ltb→lt x (f i) t) (λ t. nltb→le x (f i) t) (greater_at x (listed f (i + 1) d)) (found f x d (i + 1))
  where
    go : (c : Bool) → (T c → x < f i) → (T (mathlib.Core.Bool.not c) → f i ≤ x) → (m : ℕ) → Found f x d (i + 1) (m + (i + 1))
        → Found f x (suc d) i (pick c 0 (m + 1) + i)
    go true y n m r = record { low = omega arith; high = omega arith; past = λ a h g. absurd (omega arith); here = λ h. let z : 0 + i ≡ i = omega arith in rw z (y tt) }
    go false y n m r = record {
      low = omega arith;
      high = omega (arith, r.high);
      past = λ a h g. old a h (omega arith) (dec_lt i a);
      here = λ h. let z : m + (i + 1) ≡ m + 1 + i = omega arith in rw z at (r.here (omega arith));
    }
      where
        old : (a : ℕ) → i ≤ a → a < m + (i + 1) → Dec (i < a) → f a ≤ x
        old a h g (yes z) = r.past a (omega arith) g
        old a h g (no z) = let e : i ≡ a = omega arith in rw e at (n tt)

module _ (k : ℕ) (f : ℕ → ℕ) (hk : 1 ≤ k) where
  pub route_slot : (x : ℕ) → In k (route k f x)
  unfolding route
  route_slot x = let q = found f x (k - 1) 1 in omega (arith, q.low, q.high)

  pub route_past : (x a : ℕ) → 1 ≤ a → a < route k f x → f a ≤ x
  unfolding route
  route_past x a h g = (found f x (k - 1) 1).past a h g

  pub route_here : (x : ℕ) → route k f x < k → x < f (route k f x)
  unfolding route
  route_here x h = (found f x (k - 1) 1).here (omega arith)

  -- a key that goes further left is smaller
  pub route_order : (x y : ℕ) → route k f x < route k f y → x < y
  route_order x y h =
      let a = route_slot x in
      let b = route_slot y in
      omega (arith, route_here x (omega arith), route_past y (route k f x) (omega arith) h)

  -- the first index whose key is above x is the route
  pub route_is : (x j : ℕ) → In k j → ((a : ℕ) → 1 ≤ a → a < j → f a ≤ x) → (j < k → x < f j) → route k f x ≡ j
  route_is x j s low up = go (tri (route k f x) j)
    where
      go : (route k f x < j) ⊎ ((j < route k f x) ⊎ (route k f x ≡ j)) → route k f x ≡ j
      go (inl h) = absurd (let a = route_slot x in omega (arith, route_here x (omega arith), low (route k f x) (omega arith) h))
      go (inr (inl h)) = absurd (let a = route_slot x in omega (arith, route_past x j (omega arith) h, up (omega arith)))
      go (inr (inr h)) = h

  -- where every key is infinity, any smaller key goes to the first child
  pub route_first : (x : ℕ) → ((i : ℕ) → 1 ≤ i → i < k → x < f i) → route k f x ≡ 1
  route_first x h = route_is x 1 (omega arith) (λ a p q. absurd (omega arith)) (λ g. h 1 (omega arith) g)

-- the route looks at the keys 1 to k - 1 alone
pub route_like : (k : ℕ) (f g : ℕ → ℕ) (x : ℕ) → ((a : ℕ) → 1 ≤ a → a < k → f a ≡ g a) → route k f x ≡ route k g x
unfolding route
route_like k f g x h = ap (λ (ks : List ℕ). greater_at x ks + 1) (listed_ext f g 1 (k - 1) (λ j l. h (1 + j) (omega arith) (omega arith)))

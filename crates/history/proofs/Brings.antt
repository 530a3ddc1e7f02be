-- What a drawn replacement brings: its leaf's keys with the key put in or taken out, each where a search looks for it.
use mathlib.Core.Path.{◌≡◌, refl, ◌∙◌}
use mathlib.Core.Logic.{◌≢◌, ◌⊎◌, inl, inr}
use mathlib.Core.List.Memᴰ
use mathlib.Core.List.{List, [], ◌∷◌, Memᴰ}
use Prim.Native.Nat.{ℕ, suc, ◌+◌, ◌-◌, ◌≤◌, ◌<◌}
use native.Mathlib.Decide.{ℕ_discrete}
use native.Mathlib.Omega.{arith}
use lib.ListN.{length, get_or}
use Rattle.tables.specs.Numbers.{infinity}
use Rattle.tables.specs.Choice.{listed}
use Rattle.nodes.specs.Keys.{put_in, taken_out}
use Rattle.tables.proofs.Lists.{length-listed}
use Rattle.history.specs.View.{View, In, route, keys}
use Rattle.history.specs.Shared.{Desc}
use Rattle.history.proofs.Route.{route_is}
use Rattle.history.proofs.Rows.{put_in_old, put_in_new, put_in_only, put_in_length, put_in_rises, take_out_old, rises_apart}
use Rattle.history.proofs.Rows.{take_out_only, take_out_each, listed-mem, listed_rises, mem-get_or, get_or-mem, rises-get_or}
use Rattle.history.proofs.Replaced.{Brings}
use Rattle.history.proofs.Invariant.{Sorted, Made, put, out, sprouted}

pub keys_one : (t : View) (n : ℕ) → t.tag n ≡ 1 → keys t n ≡ t.key n 1 ∷ []
unfolding keys listed
keys_one t n e = rw e

-- one key, and x is there
pub keys_alone : (t : View) (n x : ℕ) → t.tag n ≡ 1 → Memᴰ x (keys t n) → keys t n ≡ x ∷ []
keys_alone t n x e m =
    let a : x ≡ t.key n 1 = Memᴰ.eq_of_singleton (rw (keys_one t n e) at m) in
    rw (keys_one t n e, a) refl

pub keys_count : (t : View) (n : ℕ) → length (keys t n) ≡ t.tag n
unfolding keys
keys_count t n = length-listed (t.key n) 1 (t.tag n)

pub put_in_sorted : (x : ℕ) (ks : List ℕ) → x < infinity → Sorted ks → ¬ Memᴰ x ks → Sorted (put_in x ks)
put_in_sorted x ks h s no₁ = record { rises = put_in_rises x ks s.rises no₁; finite = λ y m. go y (put_in_only x y ks m) }
  where
    go : (y : ℕ) → (y ≡ x) ⊎ Memᴰ y ks → y < infinity
    go y (inl e) = omega arith
    go y (inr m) = s.finite y m

pub take_out_sorted : (x : ℕ) (ks : List ℕ) → Sorted ks → Sorted (taken_out x ks)
take_out_sorted x ks s = record {
  rises = take_out_each x ks (rises_apart ks s.rises) s.rises;
  finite = λ y m. s.finite y (take_out_only x y ks (rises_apart ks s.rises) m).0;
}

-- the largest k - 1 of k keys, as an internal node holds them
pub largest_sorted : (k : ℕ) (f : ℕ → ℕ) (ks : List ℕ) → 1 ≤ k → length ks ≡ k → Sorted ks → ((i : ℕ) → 1 ≤ i → i < k → f i ≡ get_or ks i 0)
    → Sorted (listed f 1 (k - 1))
largest_sorted k f ks hk len s at = record {
  rises =
      listed_rises f 1 (k - 1) (λ a b p q r. rw (at a p (omega arith), at b (omega arith) (omega arith))
      (rises-get_or ks s.rises a b q (omega arith)));
  finite = λ y m. go y (listed-mem f 1 (k - 1) m);
}
  where
    go : (y : ℕ) → (j : ℕ) × (1 ≤ j) × (j < 1 + (k - 1)) × (y ≡ f j) → y < infinity
    go y a =
        let h : a.0 < k = omega (arith, a.2) in
        s.finite y (Memᴰ.cast (a.3 ∙ at a.0 a.1 h) (mem-get_or ks a.0 (omega arith)))

-- what is brought: for an insert, for a delete
pub data Effect (k : ℕ) (t : View) (d : Desc) : Type 0 where
  puts : d.operation ≡ 2 → ¬ Memᴰ d.key (keys t d.l)
      → ((y : ℕ) → Brings k t d.third y → (y ≡ d.key) ⊎ Memᴰ y (keys t d.l))
      → ((y : ℕ) → Memᴰ y (keys t d.l) → Brings k t d.third y) → Brings k t d.third d.key → Effect k t d
  takes : d.operation ≡ 3 → Memᴰ d.key (keys t d.l)
      → ((y : ℕ) → Brings k t d.third y → Memᴰ y (keys t d.l) × (y ≢ d.key))
      → ((y : ℕ) → Memᴰ y (keys t d.l) → y ≢ d.key → Brings k t d.third y) → Effect k t d

module _ (k : ℕ) (t : View) (d : Desc) (hk : 2 ≤ k) (s : Sorted (keys t d.l)) where
  -- the k keys of a sprout
  row : List ℕ
  row = put_in d.key (keys t d.l)

  row-length : t.tag d.l + 1 ≡ k → length row ≡ k
  unfolding row
  row-length e = put_in_length d.key (keys t d.l) ∙ omega (arith, keys_count t d.l)

  -- where one leaf is brought, its keys are all
  one_leaf : t.tag d.third ≢ k → (y : ℕ) → Brings k t d.third y → Memᴰ y (keys t d.third)
  one_leaf q y b = go b.place
    where
      go : (b.node ≡ d.third) ⊎ ((j : ℕ) × (t.tag d.third ≡ k) × In k j × (b.node ≡ d.third + j)) → Memᴰ y (keys t d.third)
      go (inl e) = rw e at b.has
      go (inr c) = absurd (q c.1)

  the_leaf : t.tag d.third ≢ k → (y : ℕ) → Memᴰ y (keys t d.third) → Brings k t d.third y
  the_leaf q y m = record { node = d.third; place = inl refl; leaf = q; has = m }

  module _ (q : t.tag d.third ≡ k) (full : t.tag d.l + 1 ≡ k) (leafs : (j : ℕ) → In k j → t.tag (d.third + j) ≡ 1)
      (kid : (j : ℕ) → In k j → t.key (d.third + j) 1 ≡ get_or (put_in d.key (keys t d.l)) (j - 1) 0) where
    of_kid : (j y : ℕ) → In k j → Memᴰ y (keys t (d.third + j)) → y ≡ get_or row (j - 1) 0
    unfolding row
    of_kid j y i m = Memᴰ.eq_of_singleton (rw (keys_one t (d.third + j) (leafs j i)) at m) ∙ kid j i

    of_sprout : (y : ℕ) → Brings k t d.third y → (y ≡ d.key) ⊎ Memᴰ y (keys t d.l)
    unfolding row
    of_sprout y b = go b.place
      where
        go : (b.node ≡ d.third) ⊎ ((j : ℕ) × (t.tag d.third ≡ k) × In k j × (b.node ≡ d.third + j))
            → (y ≡ d.key) ⊎ Memᴰ y (keys t d.l)
        go (inl e) = absurd (b.leaf (cc))
        go (inr c) =
            let h : c.0 - 1 < length row = rw (row-length full) (omega (arith, c.2)) in
            put_in_only d.key y (keys t d.l) (Memᴰ.cast (of_kid c.0 y c.2 (rw c.3 at b.has)) (mem-get_or row (c.0 - 1) h))

    to_sprout : (y : ℕ) → Memᴰ y row → Brings k t d.third y
    unfolding row
    to_sprout y m = go (get_or-mem row m)
      where
        go : (i : ℕ) × (i < length row) × (y ≡ get_or row i 0) → Brings k t d.third y
        go a =
            let h : In k (suc a.0) = omega (arith, a.1, row-length full) in
            let e : suc a.0 - 1 ≡ a.0 = omega arith in
            let y-at : y ≡ t.key (d.third + suc a.0) 1 = cc (a.2, kid (suc a.0) h) in
            record {
              node = d.third + suc a.0;
              place = inr (suc a.0, q, h, refl);
              leaf = λ z. omega (arith, leafs (suc a.0) h);
              has = rw (keys_one t (d.third + suc a.0) (leafs (suc a.0) h)) (Memᴰ.head y-at);
            }

  pub effect : Made k t d → Effect k t d
  unfolding row
  effect (put op no₁ q e) = puts op no₁
      (λ y b. put_in_only d.key y (keys t d.l) (rw e at (one_leaf q y b)))
      (λ y m. the_leaf q y (rw e (put_in_old d.key y (keys t d.l) m)))
      (the_leaf q d.key (rw e (put_in_new d.key (keys t d.l))))
  effect (out op m₁ q e) = takes op m₁
      (λ y b. take_out_only d.key y (keys t d.l) (rises_apart (keys t d.l) s.rises) (rw e at (one_leaf q y b)))
      (λ y m g. the_leaf q y (rw e (take_out_old d.key y (keys t d.l) m g)))
  effect (sprouted op no₁ q full at leafs kid) = puts op no₁
      (of_sprout q full leafs kid)
      (λ y m. to_sprout q full leafs kid y (put_in_old d.key y (keys t d.l) m))
      (to_sprout q full leafs kid d.key (put_in_new d.key (keys t d.l)))

  -- below a sprout a key stands at its child
  pub kid_route : d.key < infinity → Made k t d → (j y : ℕ) → t.tag d.third ≡ k → In k j → Memᴰ y (keys t (d.third + j))
      → route k (t.key d.third) y ≡ j
  unfolding row
  kid_route fin (put op no₁ q e) j y w i m = absurd (q w)
  kid_route fin (out op m₁ q e) j y w i m = absurd (q w)
  kid_route fin (sprouted op no₁ q full at leafs kid) j y w i m = route_is k (t.key d.third) (omega arith) y j i low up
    where
      so : Sorted row
      so = put_in_sorted d.key (keys t d.l) fin s no₁

      is : y ≡ get_or row (j - 1) 0
      is = of_kid q full leafs kid j y i m

      low : (a : ℕ) → 1 ≤ a → a < j → t.key d.third a ≤ y
      low a h g = rw (at a h (omega (arith, i.high)), is) (go (ℕ_discrete a (j - 1)))
        where
          go : Dec (a ≡ j - 1) → get_or row a 0 ≤ get_or row (j - 1) 0
          go (yes z) = rw z (omega arith)
          go (no z) = omega (arith, rises-get_or row so.rises a (j - 1) (omega arith) (omega (arith, row-length full, i.high)))

      up : j < k → y < t.key d.third j
      up h = rw (is, at j i.low h) (rises-get_or row so.rises (j - 1) j (omega (arith, i.low)) (omega (arith, row-length full)))

  pub kid_leaf : Made k t d → (j : ℕ) → t.tag d.third ≡ k → In k j → t.tag (d.third + j) ≢ k
  kid_leaf (put op no₁ q e) j w i z = q w
  kid_leaf (out op m₁ q e) j w i z = q w
  kid_leaf (sprouted op no₁ q full at leafs kid) j w i z = omega (arith, leafs j i)

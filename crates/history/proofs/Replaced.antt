-- What the swap of a leaf for new nodes does to search paths, the tree and the set.
use mathlib.Core.Path.{◌≡◌, refl, sym, ◌∙◌}
use mathlib.Core.Logic.{◌≢◌, ◌⊎◌, inl, inr}
use mathlib.Core.List.{Memᴰ}
use Prim.Native.Nat.{ℕ, ◌+◌, ◌≤◌, ◌<◌}
use native.Mathlib.Decide.{ℕ_discrete}
use native.Mathlib.Omega.{arith}
use Rattle.history.specs.View.{View, In, route, keys, On, root, down, Reach, top, by, Holds, Ordered}
use Rattle.history.specs.Change.{SwapChild}
use Rattle.history.proofs.Route.{route_slot}
use Rattle.history.proofs.Paths.{here?, keys_same, Uniq, on_down, on_reach, came_by}

-- how many numbers a new node takes beside its own: k below an internal one
unfoldable pub span : ℕ → ℕ → ℕ
span k tag = elim (ℕ_discrete tag k) [ yes e ↦ k | no e ↦ 0 ]

pub span_inner : (k tag : ℕ) → tag ≡ k → span k tag ≡ k
unfolding span
span_inner k tag h = go (ℕ_discrete tag k)
  where
    go : (d : Dec (tag ≡ k)) → (elim d [ yes e ↦ k | no e ↦ 0 ]) ≡ k
    go (yes e) = refl
    go (no e) = absurd (e h)

pub span_leaf : (k tag : ℕ) → tag ≢ k → span k tag ≡ 0
unfolding span
span_leaf k tag h = go (ℕ_discrete tag k)
  where
    go : (d : Dec (tag ≡ k)) → ◌≡◌ {A = ℕ} (elim d [ yes e ↦ k | no e ↦ 0 ]) 0
    go (yes e) = absurd (h e)
    go (no e) = refl

-- n is one of the numbers from least to most: none where most is 0
pub record Between (least most n : ℕ) : Type 0 where
  pub low : least ≤ n
  pub high : n ≤ most

-- n is one of the numbers that the new node takes
abbrev pub NewOf : ℕ → View → ℕ → ℕ → Type 0
NewOf k t new n = Between new (new + span k (t.tag new)) n

module _ (k : ℕ) where
  -- new and, if it is internal, its children are numbers that the tree has not reached
  pub record Unborn (t : View) (new : ℕ) : Type 0 where
    pub unreached : (n : ℕ) → Reach k t n → NewOf k t new n → ⊥
    pub kids : (j : ℕ) → t.tag new ≡ k → In k j → t.child new j ≡ new + j

  -- `most` bounds the numbers of the tree, and the new ones
  pub record Replace (most : ℕ) (t t' : View) (p i l new : ℕ) : Type 0 where
    pub swap : SwapChild k most t t' p i new
    pub low : (n : ℕ) → Reach k t n → In most n
    pub new_used : new + span k (t.tag new) ≤ most
    pub was : t.child p i ≡ l
    pub p_in : Reach k t p
    pub p_int : t.tag p ≡ k
    pub i_in : In k i
    pub l_leaf : t.tag l ≢ k
    pub unborn : Unborn t new
    pub past_root : 1 < new
    pub kid_leaf : (j : ℕ) → t.tag new ≡ k → In k j → t.tag (t.child new j) ≢ k

  -- what the tree has after the swap
  pub data Got (t : View) (new n : ℕ) : Type 0 where
    got_old : Reach k t n → Got t new n
    got_new : n ≡ new → Got t new n
    got_kid : (j : ℕ) → t.tag new ≡ k → In k j → n ≡ new + j → Got t new n

  pub new_of : {t : View} {new n : ℕ} → Got t new n → Reach k t n ⊎ NewOf k t new n
  new_of (got_old o) = inl o
  new_of (got_new e) = inr (omega arith)
  new_of {t} {new} (got_kid j w s e) = inr (omega (arith, span_inner k (t.tag new) w))

  -- the child words of the tree after the swap
  data Kind (t t' : View) (p i new m j : ℕ) : Type 0 where
    old_word : Reach k t m → t.tag m ≡ k → t'.child m j ≡ t.child m j → Kind t t' p i new m j
    swapped : m ≡ p → j ≡ i → t'.child m j ≡ new → Kind t t' p i new m j
    kid_word : m ≡ new → t.tag new ≡ k → t'.child m j ≡ new + j → Kind t t' p i new m j

  -- the key y stands in a leaf that the new node brings
  pub record Brings (t : View) (new y : ℕ) : Type 0 where
    pub node : ℕ
    pub place : (node ≡ new) ⊎ ((j : ℕ) × (t.tag new ≡ k) × In k j × (node ≡ new + j))
    pub leaf : t.tag node ≢ k
    pub has : Memᴰ y (keys t node)

  module _ {most : ℕ} {t t' : View} {p i l new : ℕ} (hk : 1 ≤ k) (r : Replace most t t' p i l new) where
    new_p : new ≢ p
    new_p z = r.unborn.unreached p r.p_in (omega arith)

    l_in : Reach k t l
    l_in = by i r.p_in r.p_int r.i_in (sym r.was)

    p_l : p ≢ l
    p_l z = r.l_leaf (rw z at r.p_int)

    new_in : In most new
    new_in = omega (arith, r.past_root, r.new_used)

    kid_in : (j : ℕ) → t.tag new ≡ k → In k j → In most (new + j)
    kid_in j w s = omega (arith, r.past_root, r.new_used, span_inner k (t.tag new) w)

    kid : (j : ℕ) → t.tag new ≡ k → In k j → t'.child new j ≡ new + j
    kid j w s = r.swap.child_same new j new_in s (λ z. new_p z.0) ∙ r.unborn.kids j w s

    p_used : In most p
    p_used = r.low p r.p_in

    row_same : (n : ℕ) → In most n → keys t' n ≡ keys t n
    row_same n h = keys_same t t' n (r.swap.tag_same n h) (r.swap.key_same n h)

    -- what the tree has after the swap is in use
    got_in : {n : ℕ} → Got t new n → In most n
    got_in {n} (got_old o) = r.low n o
    got_in (got_new e) = rw e new_in
    got_in (got_kid j w s e) = rw e (kid_in j w s)

    -- paths to nodes other than l stay
    pub replace_on : {y n : ℕ} → On k t y n → n ≢ l → On k t' y n
    replace_on (root e) h = root e
    replace_on {y} {n} (down {m = m} o q e) h =
        let b : In most m = r.low m (on_reach k hk o) in
        on_down k {m = m} {n = n} (replace_on o (λ z. r.l_leaf (rw z at q))) (r.swap.tag_same m b ∙ q)
        (rw (r.swap.key_same m b) (e ∙ sym (r.swap.child_same m (route k (t.key m) y) b (route_slot k _ hk y) (λ z. h (cc)))))

    pub replace_reach : {n : ℕ} → Reach k t n → n ≢ l → Reach k t' n
    replace_reach (top e) h = top e
    replace_reach {n} (by {m = m} j o q s e) h =
        let b : In most m = r.low m o in
        by j (replace_reach o (λ z. r.l_leaf (rw z at q))) (r.swap.tag_same m b ∙ q) s
        (e ∙ sym (r.swap.child_same m j b s (λ z. h (cc))))

    new_reach : Reach k t' new
    new_reach = by i (replace_reach r.p_in p_l) (r.swap.tag_same p p_used ∙ r.p_int) r.i_in (sym r.swap.child_new)

    pub replace_got : {n : ℕ} → Reach k t' n → Got t new n
    replace_got (top e) = got_old (top e)
    replace_got {n} (by {m = m} j o q s e) = go (replace_got o) (here? m p j i)
      where
        was : Got t new m → t.tag m ≡ k
        was c = sym (r.swap.tag_same m (got_in c)) ∙ q

        go : Got t new m → Dec ((m ≡ p) × (j ≡ i)) → Got t new n
        go c (yes z) = got_new (cc)
        go (got_old a) (no z) = got_old (by j a (was (got_old a)) s (e ∙ r.swap.child_same m j (r.low m a) s z))
        go (got_new x) (no z) = let w : t.tag new ≡ k = rw x at (was (got_new x)) in got_kid j w s (cc (kid j w s))
        go (got_kid a w b x) (no z) = absurd (r.kid_leaf a w b (cc (was (got_kid a w b x), r.unborn.kids a w b)))

    kind : (m j : ℕ) → Reach k t' m → t'.tag m ≡ k → In k j → Kind t t' p i new m j
    kind m j o q s = go (replace_got o) (here? m p j i)
      where
        was : Got t new m → t.tag m ≡ k
        was c = sym (r.swap.tag_same m (got_in c)) ∙ q

        go : Got t new m → Dec ((m ≡ p) × (j ≡ i)) → Kind t t' p i new m j
        go c (yes z) = swapped z.0 z.1 (cc)
        go (got_old a) (no z) = old_word a (was (got_old a)) (r.swap.child_same m j (r.low m a) s z)
        go (got_new x) (no z) = let w : t.tag new ≡ k = rw x at (was (got_new x)) in kid_word x w (cc (kid j w s))
        go (got_kid a w b x) (no z) = absurd (r.kid_leaf a w b (cc (was (got_kid a w b x), r.unborn.kids a w b)))

    -- a child word of the tree before the swap names no new number
    far : (m j : ℕ) → Reach k t m → t.tag m ≡ k → In k j → NewOf k t new (t.child m j) → ⊥
    far m j o q s h = r.unborn.unreached (t.child m j) (by j o q s refl) h

    at_kid : (m j a : ℕ) → t.tag new ≡ k → a ≤ k → t.child m j ≡ new + a → NewOf k t new (t.child m j)
    at_kid m j a w h e = omega (arith, span_inner k (t.tag new) w)

    pub replace_uniq : Uniq k t → Uniq k t'
    replace_uniq u = record { one = both; not_root = notr }
      where
        notr : (m j : ℕ) → Reach k t' m → t'.tag m ≡ k → In k j → t'.child m j ≢ 1
        notr m j o q s z = go (kind m j o q s)
          where
            go : Kind t t' p i new m j → ⊥
            go (old_word o₁ q₁ e) = u.not_root m j o₁ q₁ s (cc)
            go (swapped x y e) = omega (arith, r.past_root)
            go (kid_word x w e) = omega (arith, r.past_root)

        both : (m j m' j' : ℕ) → Reach k t' m → t'.tag m ≡ k → In k j → Reach k t' m' → t'.tag m' ≡ k → In k j'
            → t'.child m j ≡ t'.child m' j' → (m ≡ m') × (j ≡ j')
        both m j m' j' o q s o' q' s' e = go (kind m j o q s) (kind m' j' o' q' s')
          where
            go : Kind t t' p i new m j → Kind t t' p i new m' j' → (m ≡ m') × (j ≡ j')
            go (old_word a b c) (old_word a' b' c') = u.one m j m' j' a b s a' b' s' (cc)
            go (old_word a b c) (swapped x y c') = absurd (far m j a b s (omega arith))
            go (old_word a b c) (kid_word x w c') = absurd (far m j a b s (at_kid m j j' w s'.high (omega arith)))
            go (swapped x y c) (old_word a' b' c') = absurd (far m' j' a' b' s' (omega arith))
            go (swapped x y c) (swapped x' y' c') = (cc, cc)
            go (swapped x y c) (kid_word x' w c') = omega arith
            go (kid_word x w c) (old_word a' b' c') = absurd (far m' j' a' b' s' (at_kid m' j' j w s.high (omega arith)))
            go (kid_word x w c) (swapped x' y' c') = omega arith
            go (kid_word x w c) (kid_word x' w' c') = omega arith

    -- l is gone
    pub l_gone : Uniq k t → Reach k t' l → ⊥
    l_gone u (top e) = u.not_root p i r.p_in r.p_int r.i_in (cc)
    l_gone u (by {m = m} j o q s e) = go (kind m j o q s)
      where
        go : Kind t t' p i new m j → ⊥
        go (swapped x y c) = let w : l ≡ new = cc in r.unborn.unreached l l_in (omega arith)
        go (kid_word x w c) = let y : l ≡ new + j = cc in r.unborn.unreached l l_in (omega (arith, span_inner k (t.tag new) w))
        go (old_word a b c) = same (u.one m j p i a b s r.p_in r.p_int r.i_in (cc))
          where
            same : (m ≡ p) × (j ≡ i) → ⊥
            same z = let w : l ≡ new = cc r.swap.child_new in r.unborn.unreached l l_in (omega arith)

    -- a key that the new node brings is in the set after the swap
    pub brought : {y : ℕ} → Brings t new y → Holds k t' y
    brought {y} b = record {
      node = b.node;
      reached = at b.place;
      leaf = rw (r.swap.tag_same b.node (used b.place)) b.leaf;
      has = rw (row_same b.node (used b.place)) b.has;
    }
      where
        used : (b.node ≡ new) ⊎ ((j : ℕ) × (t.tag new ≡ k) × In k j × (b.node ≡ new + j)) → In most b.node
        used (inl e) = rw e new_in
        used (inr c) = rw c.3 (kid_in c.0 c.1 c.2)

        at : (b.node ≡ new) ⊎ ((j : ℕ) × (t.tag new ≡ k) × In k j × (b.node ≡ new + j)) → Reach k t' b.node
        at (inl e) = rw e new_reach
        at (inr c) = by c.0 new_reach (r.swap.tag_same new new_in ∙ c.1) c.2 (c.3 ∙ sym (kid c.0 c.1 c.2))

    -- a key that stands in the tree but not in l stays
    pub stayed : {y : ℕ} (h : Holds k t y) → h.node ≢ l → Holds k t' y
    stayed h d = record {
      node = h.node;
      reached = replace_reach h.reached d;
      leaf = rw (r.swap.tag_same h.node (r.low h.node h.reached)) h.leaf;
      has = rw (row_same h.node (r.low h.node h.reached)) h.has;
    }

    -- what is in the set after the swap stood there before, in a leaf other than l, or the new node brings it
    pub after : {y : ℕ} → Uniq k t → Holds k t' y → ((h : Holds k t y) × (h.node ≢ l)) ⊎ Brings t new y
    after {y} u h = go (replace_got h.reached)
      where
        leaf : t.tag h.node ≢ k
        leaf = rw (r.swap.tag_same h.node (got_in (replace_got h.reached))) at h.leaf

        has : Memᴰ y (keys t h.node)
        has = rw (row_same h.node (got_in (replace_got h.reached))) at h.has

        go : Got t new h.node → ((h : Holds k t y) × (h.node ≢ l)) ⊎ Brings t new y
        go (got_old o) = inl (record { node = h.node; reached = o; leaf = leaf; has = has }, λ z. l_gone u (rw z at h.reached))
        go (got_new e) = inr (record { node = h.node; place = inl e; leaf = leaf; has = has })
        go (got_kid j w s e) = inr (record { node = h.node; place = inr (j, w, s, e); leaf = leaf; has = has })

    -- search order stays where the keys that the new node brings are those of searches that came to l
    pub replace_ordered : Uniq k t → Ordered k t → ((y : ℕ) → Brings t new y → On k t y l)
        → ((j y : ℕ) → t.tag new ≡ k → In k j → Memᴰ y (keys t (new + j)) → route k (t.key new) y ≡ j) → Ordered k t'
    unfolding Ordered
    replace_ordered u ord came kid_route n y o q m = go (replace_got o)
      where
        q' : t.tag n ≢ k
        q' = rw (r.swap.tag_same n (got_in (replace_got o))) at q

        m' : Memᴰ y (keys t n)
        m' = rw (row_same n (got_in (replace_got o))) at m

        -- a search for y that ended in l now goes on to the new node
        to_new : On k t y l → On k t' y new
        to_new a =
            let c = came_by k hk u r.p_in r.p_int r.i_in r.was a in
            on_down k (replace_on c.0 p_l) (r.swap.tag_same p p_used ∙ r.p_int)
            (rw (r.swap.key_same p p_used, c.1) (sym r.swap.child_new))

        go : Got t new n → On k t' y n
        go (got_old a) = replace_on (ord n y a q' m') (λ z. l_gone u (rw z at o))
        go (got_new e) = rw e (to_new (came y (record { node = n; place = inl e; leaf = q'; has = m' })))
        go (got_kid j w s e) =
            let c = came y (record { node = n; place = inr (j, w, s, e); leaf = q'; has = m' }) in
            on_down k (to_new c) (r.swap.tag_same new new_in ∙ w)
            (rw (r.swap.key_same new new_in, kid_route j y w s (rw e at m')) (e ∙ sym (kid j w s)))

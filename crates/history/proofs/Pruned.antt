-- What the swap of a marked parent for its other child does to search paths, the tree and the set.
use mathlib.Core.Path.{◌≡◌, sym, ◌∙◌}
use mathlib.Core.Logic.{◌≢◌}
use Prim.Native.Nat.{ℕ, ◌≤◌}
use native.Mathlib.Decide.{ℕ_discrete}
use Rattle.history.specs.View.{View, In, route, keys, On, root, down, Reach, top, by, Holds, Ordered}
use Rattle.history.specs.Change.{SwapChild}
use Rattle.history.proofs.Route.{route_slot}
use Rattle.history.proofs.Paths.{here?, keys_same, Uniq, on_down, on_reach}

module _ (k : ℕ) where
  -- p's other children are leaves; `most` bounds the numbers of the tree
  pub record Prune (most : ℕ) (t t' : View) (gp i p other place : ℕ) : Type 0 where
    pub swap : SwapChild k most t t' gp i other
    pub low : (n : ℕ) → Reach k t n → In most n
    pub was : t.child gp i ≡ p
    pub i_in : In k i
    pub gp_int : t.tag gp ≡ k
    pub gp_in : Reach k t gp
    pub p_int : t.tag p ≡ k
    pub gp_p : gp ≢ p
    pub place_in : In k place
    pub other_at : t.child p place ≡ other
    pub rest_leaf : (j : ℕ) → In k j → j ≢ place → t.tag (t.child p j) ≢ k

  -- where a node of y's path is after the swap
  pub data Fate (t t' : View) (p other y n : ℕ) : Type 0 where
    stays : On k t' y n → Fate t t' p other y n
    was_p : n ≡ p → On k t' y other → Fate t t' p other y n
    dropped : (j : ℕ) → In k j → n ≡ t.child p j → n ≢ other → Fate t t' p other y n

  -- what the tree has after the swap is neither p nor a dropped child of p
  pub record Spared (t : View) (p other n : ℕ) : Type 0 where
    pub not_p : n ≢ p
    pub not_kid : (j : ℕ) → In k j → n ≡ t.child p j → n ≡ other

  module _ {most : ℕ} {t t' : View} {gp i p other place : ℕ} (hk : 1 ≤ k) (r : Prune most t t' gp i p other place) where
    p_in : Reach k t p
    p_in = by i r.gp_in r.gp_int r.i_in (sym r.was)

    pub dropped_leaf : {n : ℕ} (j : ℕ) → In k j → n ≡ t.child p j → n ≢ other → t.tag n ≢ k
    dropped_leaf {n} j s x ne q = r.rest_leaf j s (λ z. ne (cc r.other_at)) (cc)

    pub fate : {y n : ℕ} → On k t y n → Fate t t' p other y n
    fate (root e) = stays (root e)
    fate {y} {n} (down {m = m} o q e) = go (fate o) (here? m gp (route k (t.key m) y) i) (ℕ_discrete n other)
      where
        h : In most m
        h = r.low m (on_reach k hk o)

        go : Fate t t' p other y m → Dec ((m ≡ gp) × (route k (t.key m) y ≡ i)) → Dec (n ≡ other) → Fate t t' p other y n
        go (stays o₁) (yes z) c = was_p (cc) (down {n = other} o₁ (r.swap.tag_same m h ∙ q) (cc (r.swap.key_same m h)))
        go (stays o₁) (no z) c =
            stays (on_down k {m = m} {n = n} o₁ (r.swap.tag_same m h ∙ q)
            (rw (r.swap.key_same m h) (e ∙ sym (r.swap.child_same m (route k (t.key m) y) h (route_slot k _ hk y) z))))
        go (was_p x o₁) d (yes c) = stays (rw c o₁)
        go (was_p x o₁) d (no c) = dropped (route k (t.key m) y) (route_slot k _ hk y) (cc) c
        go (dropped j s x ne) d c = absurd (dropped_leaf j s x ne q)

    pub prune_on : {y n : ℕ} → On k t y n → Spared t p other n → On k t' y n
    prune_on {y} {n} o c = go (fate o)
      where
        go : Fate t t' p other y n → On k t' y n
        go (stays o₁) = o₁
        go (was_p x o₁) = absurd (c.not_p x)
        go (dropped j s x ne) = absurd (ne (c.not_kid j s x))

    pub prune_back : {n : ℕ} → Reach k t' n → Reach k t n
    prune_back (top e) = top e
    prune_back {n} (by {m = m} j o q s e) = go (prune_back o) (here? m gp j i)
      where
        go : Reach k t m → Dec ((m ≡ gp) × (j ≡ i)) → Reach k t n
        go u (yes z) = by {m = p} {n = n} place p_in r.p_int r.place_in (cc)
        go u (no z) = by j u (sym (r.swap.tag_same m (r.low m u)) ∙ q) s (e ∙ r.swap.child_same m j (r.low m u) s z)

    -- what the tree has after the swap is in use
    used : {n : ℕ} → Reach k t' n → In most n
    used {n} o = r.low n (prune_back o)

    old_tag : (m : ℕ) → Reach k t' m → t'.tag m ≡ k → t.tag m ≡ k
    old_tag m o q = sym (r.swap.tag_same m (used o)) ∙ q

    old_word : (m j : ℕ) → Reach k t' m → In k j → ¬ ((m ≡ gp) × (j ≡ i)) → t'.child m j ≡ t.child m j
    old_word m j o s z = r.swap.child_same m j (used o) s z

    row_same : (n : ℕ) → In most n → keys t' n ≡ keys t n
    row_same n h = keys_same t t' n (r.swap.tag_same n h) (r.swap.key_same n h)

    module _ (u : Uniq k t) where
      other_p : other ≢ p
      other_p z = r.gp_p (u.one gp i p place r.gp_in r.gp_int r.i_in p_in r.p_int r.place_in (cc)).0

      pub spared : {n : ℕ} → Reach k t' n → Spared t p other n
      spared (top e) = record {
        not_p = λ z. u.not_root gp i r.gp_in r.gp_int r.i_in (cc);
        not_kid = λ j s z. absurd (u.not_root p j p_in r.p_int s (cc));
      }
      spared {n} (by {m = m} j o q s e) = go (spared o) (prune_back o) (here? m gp j i)
        where
          q' : t.tag m ≡ k
          q' = old_tag m o q

          go : Spared t p other m → Reach k t m → Dec ((m ≡ gp) × (j ≡ i)) → Spared t p other n
          go c um (yes z) = record { not_p = λ x. other_p (cc); not_kid = λ j₁ s₁ x. cc }
          go c um (no z) =
              let e' : n ≡ t.child m j = e ∙ old_word m j o s z in
              record {
                not_p = λ x. z (u.one m j gp i um q' s r.gp_in r.gp_int r.i_in (cc));
                not_kid = λ j₁ s₁ x. absurd (c.not_p (u.one m j p j₁ um q' s p_in r.p_int s₁ (cc)).0);
              }

      pub prune_uniq : Uniq k t'
      prune_uniq = record { one = both; not_root = notr }
        where
          notr : (m j : ℕ) → Reach k t' m → t'.tag m ≡ k → In k j → t'.child m j ≢ 1
          notr m j o q s z = go (here? m gp j i)
            where
              go : Dec ((m ≡ gp) × (j ≡ i)) → ⊥
              go (yes h) = u.not_root p place p_in r.p_int r.place_in (cc)
              go (no h) = u.not_root m j (prune_back o) (old_tag m o q) s (sym (old_word m j o s h) ∙ z)

          -- a child word that the swap left alone is not the one that it wrote
          apart : (m j : ℕ) → Reach k t' m → t'.tag m ≡ k → In k j → ¬ ((m ≡ gp) × (j ≡ i)) → t'.child m j ≡ other → ⊥
          apart m j o q s h e =
              (spared o).not_p (u.one m j p place (prune_back o) (old_tag m o q) s p_in r.p_int r.place_in
              (cc (old_word m j o s h))).0

          both : (m j m' j' : ℕ) → Reach k t' m → t'.tag m ≡ k → In k j → Reach k t' m' → t'.tag m' ≡ k → In k j'
              → t'.child m j ≡ t'.child m' j' → (m ≡ m') × (j ≡ j')
          both m j m' j' o q s o' q' s' e = go (here? m gp j i) (here? m' gp j' i)
            where
              go : Dec ((m ≡ gp) × (j ≡ i)) → Dec ((m' ≡ gp) × (j' ≡ i)) → (m ≡ m') × (j ≡ j')
              go (yes h) (yes h') = (cc, cc)
              go (yes h) (no h') = absurd (apart m' j' o' q' s' h' (cc))
              go (no h) (yes h') = absurd (apart m j o q s h (cc))
              go (no h) (no h') =
                  u.one m j m' j' (prune_back o) (old_tag m o q) s (prune_back o') (old_tag m' o' q') s'
                  (cc (old_word m j o s h, old_word m' j' o' s' h'))

      pub prune_ordered : Ordered k t → Ordered k t'
      unfolding Ordered
      prune_ordered ord n y o q m =
          prune_on (ord n y (prune_back o) (rw (r.swap.tag_same n (used o)) at q) (rw (row_same n (used o)) at m)) (spared o)

      -- the set after the swap: the keys of leaves that are not dropped
      pub prune_left : {y : ℕ} → Holds k t' y → (h : Holds k t y) × Spared t p other h.node
      prune_left h = (
        record {
          node = h.node;
          reached = prune_back h.reached;
          leaf = rw (r.swap.tag_same h.node (used h.reached)) at h.leaf;
          has = rw (row_same h.node (used h.reached)) at h.has;
        },
        spared h.reached,
      )

      pub prune_kept : {y : ℕ} → Ordered k t → (h : Holds k t y) → Spared t p other h.node → Holds k t' y
      unfolding Ordered
      prune_kept {y} ord h c = record {
        node = h.node;
        reached = on_reach k hk (prune_on (ord h.node y h.reached h.leaf h.has) c);
        leaf = rw (r.swap.tag_same h.node (r.low h.node h.reached)) h.leaf;
        has = rw (row_same h.node (r.low h.node h.reached)) h.has;
      }

-- What is never written again: facts on tags and keys carry over to every later moment, and the shape through each kind of write.
use mathlib.Core.Path.{◌≡◌, refl, sym, ◌∙◌}
use mathlib.Core.Logic.{◌≢◌}
use Prim.Native.Nat.{ℕ, zero, suc, ◌+◌, ◌≤◌, ◌<◌}
use native.Mathlib.Omega.{arith}
use Rattle.history.specs.View.{View, In, keys}
use Rattle.history.specs.Shared.{Desc, Shared}
use Rattle.history.specs.Run.{Same}
use Rattle.history.specs.Change.{SwapChild, SwapPend}
use Rattle.history.proofs.Paths.{here?, keys_same}
use Rattle.history.proofs.Touch.{child_used}
use Rattle.history.proofs.Replaced.{span, span_inner}
use Rattle.history.proofs.Invariant.{inner_count, Shape, Made, put, out, sprouted, GoodReplace, GoodPrune, Good, Origin, never}
use Rattle.history.proofs.Invariant.{replace_over, prune_over, sprout_born, Word, clean, replacing, pruning, marked}

-- the count looks at tags alone
pub count_same : (k : ℕ) (t t' : View) (n : ℕ) → ((a : ℕ) → In n a → t'.tag a ≡ t.tag a) → inner_count k t' n ≡ inner_count k t n
unfolding inner_count
count_same k t t' zero h = refl
count_same k t t' (suc n) h = cc (h (suc n) (omega arith), count_same k t t' n (λ a l. h a (omega arith)))

origin_more : {m m' : ℕ} {T T' : ℕ → Desc} {n c : ℕ} → m ≤ m' → ((q : ℕ) → In m q → T' q ≡ T q) → Origin m T n c → Origin m' T' n c
origin_more h s (never e) = never e
origin_more {c = c} h s (replace_over i a b) = replace_over (omega arith) (rw (s c i) a) (rw (s c i) b)
origin_more {c = c} h s (prune_over i a b) = prune_over (omega arith) (rw (s c i) a) (rw (s c i) b)
origin_more {c = c} h s (sprout_born i a b) = sprout_born (omega arith) (rw (s c i) a) (rw (s c i) b)

pub origin_used : {m : ℕ} {T : ℕ → Desc} {n c : ℕ} → Origin m T n c → c ≤ m
origin_used (never e) = omega arith
origin_used (replace_over i a b) = i.high
origin_used (prune_over i a b) = i.high
origin_used (sprout_born i a b) = i.high

pub word_more : {m m' : ℕ} {T T' : ℕ → Desc} {n w : ℕ} → m ≤ m' → ((q : ℕ) → In m q → T' q ≡ T q) → Word m T n w → Word m' T' n w
word_more h s (clean c e o) = clean c e (origin_more h s o)
word_more h s (replacing r e i a b) = replacing r e (omega arith) (rw (s r i) a) (rw (s r i) b)
word_more h s (pruning r e i a b) = pruning r e (omega arith) (rw (s r i) a) (rw (s r i) b)
word_more h s (marked r e i a b) = marked r e (omega arith) (rw (s r i) a) (rw (s r i) b)

module _ (k u u' : ℕ) (t t' : View) (more : u ≤ u') (tag_same : (n : ℕ) → In u n → t'.tag n ≡ t.tag n)
    (key_same : (n : ℕ) → In u n → t'.key n ≡ t.key n) where
  row_same : (n : ℕ) → In u n → keys t' n ≡ keys t n
  row_same n h = keys_same t t' n (tag_same n h) (key_same n h)

  made_more : {d : Desc} → In u d.l → d.l < d.third → d.third + span k (t.tag d.third) ≤ u → Made k t d → Made k t' d
  made_more {d} hl hb hn (put op no₁ q e) =
      let h : In u d.third = omega arith in
      put op (rw (row_same d.l hl) no₁) (rw (tag_same d.third h) q) (rw (row_same d.l hl, row_same d.third h) e)
  made_more {d} hl hb hn (out op m q e) =
      let h : In u d.third = omega arith in
      out op (rw (row_same d.l hl) m) (rw (tag_same d.third h) q) (rw (row_same d.l hl, row_same d.third h) e)
  made_more {d} hl hb hn (sprouted op no₁ q full at leafs kid) =
      let h : In u d.third = omega arith in
      sprouted op (rw (row_same d.l hl) no₁) (tag_same d.third h ∙ q) (rw (tag_same d.l hl) full)
      (λ i a b. rw (key_same d.third h, row_same d.l hl) (at i a b))
      (λ j i. tag_same (d.third + j) (below j i) ∙ leafs j i)
      (λ j i. rw (key_same (d.third + j) (below j i), row_same d.l hl) (kid j i))
    where
      below : (j : ℕ) → In k j → In u (d.third + j)
      below j i = omega (arith, span_inner k (t.tag d.third) q)

  pub good_more : {d : Desc} {r : ℕ} → Good k u t d r → Good k u' t' d r
  good_more {d} {r} g = record {
    finite = g.finite;
    inner = tag_same d.p (omega (arith, g.low, g.above, g.used)) ∙ g.inner;
    low = g.low;
    leaf = rw (tag_same d.l hl) g.leaf;
    above = g.above;
    used = omega (arith, g.used);
    replace = λ e. rep (g.replace e);
    prune = λ e. pru (g.prune e);
  }
    where
      hl : In u d.l
      hl = omega (arith, g.low, g.above, g.used)

      rep : GoodReplace k u t d → GoodReplace k u' t' d
      rep a = record {
        made = made_more hl a.new_above a.new_used a.made;
        new_above = a.new_above;
        new_used = rw (tag_same d.third (omega (arith, hl, a.new_above, a.new_used))) (omega (arith, a.new_used));
        unexpected = a.unexpected;
      }

      pru : GoodPrune k t d r → GoodPrune k t' d r
      pru a = record {
        operation = a.operation;
        gp_above = a.gp_above;
        gp_low = a.gp_low;
        gp_inner = tag_same d.third (omega (arith, a.gp_low, a.gp_above, g.above, g.used)) ∙ a.gp_inner;
        past_dummy = a.past_dummy;
        alone = row_same d.l hl ∙ a.alone;
        seen = a.seen;
        clean = a.clean;
        before = a.before;
      }

-- a child word is as it was, or one that may hang there: never of the root, of the dummy only the first
data KidWord (u : ℕ) (t t' : View) (n j : ℕ) : Type 0 where
  same_word : t'.child n j ≡ t.child n j → KidWord u t t' n j
  new_word : 2 ≤ n → (n ≡ 2 → j ≡ 1) → n < t'.child n j → t'.child n j ≤ u → KidWord u t t' n j

-- tags and keys as they were, children such words, leaves still clean
shape_words : {k u : ℕ} {t t' : View} → 2 ≤ k → Shape k u t → ((n : ℕ) → In u n → t'.tag n ≡ t.tag n)
    → ((n : ℕ) → In u n → t'.key n ≡ t.key n)
    → ((n j : ℕ) → In u n → t.tag n ≡ k → In k j → KidWord u t t' n j) → ((n : ℕ) → In u n → t.tag n ≢ k → t'.pend n ≡ 0) → Shape k u t'
shape_words {k} {u} {t} {t'} hk s tag_same key_same kid quiet = record {
  crown = record {
    root_inner = tag_same 1 one ∙ s.crown.root_inner;
    dummy_inner = tag_same 2 two ∙ s.crown.dummy_inner;
    root_keys = λ i a b. rw (key_same 1 one) (s.crown.root_keys i a b);
    dummy_keys = λ i a b. rw (key_same 2 two) (s.crown.dummy_keys i a b);
    first = root_kid 1 (omega arith) ∙ s.crown.first;
    root_rest = λ j a b. rw (root_kid j (omega arith)) (kid_tag 1 j one s.crown.root_inner (omega arith) ∙ s.crown.root_rest j a b);
    dummy_rest =
        λ j a b. rw (dummy_kid j a (omega arith)) (kid_tag 2 j two s.crown.dummy_inner (omega arith) ∙ s.crown.dummy_rest j a b);
  };
  tags = λ n h. rw (tag_same n h) (s.tags n h);
  above = λ n j h e i. up n j h (sym (tag_same n h) ∙ e) i (kid n j h (sym (tag_same n h) ∙ e) i);
  used = λ n j h e i. us n j h (sym (tag_same n h) ∙ e) i (kid n j h (sym (tag_same n h) ∙ e) i);
  leaf_keys = λ n h e. rw (keys_same t t' n (tag_same n h) (key_same n h)) (s.leaf_keys n h (rw (tag_same n h) at e));
  inner_keys = λ n a b e. rw (key_same n (omega arith)) (s.inner_keys n a b (sym (tag_same n (omega arith)) ∙ e));
  leaf_clean = λ n h e. quiet n h (rw (tag_same n h) at e);
  room = rw (count_same k t t' u tag_same) s.room;
}
  where
    one : In u 1
    one = omega (arith, s.room)

    two : In u 2
    two = omega (arith, s.room)

    kid_tag : (n j : ℕ) → In u n → t.tag n ≡ k → In k j → t'.tag (t.child n j) ≡ t.tag (t.child n j)
    kid_tag n j h q i = tag_same (t.child n j) (child_used s n j h q i)

    root_kid : (j : ℕ) → In k j → t'.child 1 j ≡ t.child 1 j
    root_kid j i = go (kid 1 j one s.crown.root_inner i)
      where
        go : KidWord u t t' 1 j → t'.child 1 j ≡ t.child 1 j
        go (same_word e) = e
        go (new_word a b c d) = absurd (omega arith)

    dummy_kid : (j : ℕ) → 2 ≤ j → In k j → t'.child 2 j ≡ t.child 2 j
    dummy_kid j l i = go (kid 2 j two s.crown.dummy_inner i)
      where
        go : KidWord u t t' 2 j → t'.child 2 j ≡ t.child 2 j
        go (same_word e) = e
        go (new_word a b c d) = absurd (omega (arith, b refl))

    up : (n j : ℕ) → In u n → t.tag n ≡ k → In k j → KidWord u t t' n j → n < t'.child n j
    up n j h q i (same_word e) = rw e (s.above n j h q i)
    up n j h q i (new_word a b c d) = c

    us : (n j : ℕ) → In u n → t.tag n ≡ k → In k j → KidWord u t t' n j → t'.child n j ≤ u
    us n j h q i (same_word e) = rw e (s.used n j h q i)
    us n j h q i (new_word a b c d) = d

-- a pending written at an internal node
pub shape_pend : {k u : ℕ} {t t' : View} {x v : ℕ} → 2 ≤ k → Shape k u t → SwapPend k u t t' x v → t.tag x ≡ k → Shape k u t'
shape_pend hk s w q = shape_words hk s w.tag_same w.key_same (λ n j h e i. same_word (w.child_same n j h i))
    (λ n h e. w.pend_same n h (λ z. e (rw z q)) ∙ s.leaf_clean n h e)

-- a child swapped
pub shape_child : {k u : ℕ} {t t' : View} {p i v : ℕ} → 2 ≤ k → Shape k u t → SwapChild k u t t' p i v → 2 ≤ p → (p ≡ 2 → i ≡ 1) → p < v
    → v ≤ u
    → Shape k u t'
shape_child {k} {u} {t} {t'} {p} {i} {v} hk s w hp h2 hv hu =
    shape_words hk s w.tag_same w.key_same (λ n j h q a. word n j h a (here? n p j i))
    (λ n h e. w.pend_same n h ∙ s.leaf_clean n h e)
  where
    word : (n j : ℕ) → In u n → In k j → Dec ((n ≡ p) × (j ≡ i)) → KidWord u t t' n j
    word n j h a (yes z) =
        new_word (omega (arith, z.0)) (λ e. z.1 ∙ h2 (sym z.0 ∙ e)) (rw (z.0, z.1, w.child_new) hv)
        (rw (z.0, z.1, w.child_new) hu)
    word n j h a (no z) = same_word (w.child_same n j h a z)

-- nothing written
pub shape_same : {k : ℕ} {S S' : Shared} → 2 ≤ k → Shape k S.nodes S.view → Same k S S' → Shape k S.nodes S'.view
shape_same hk s w =
    shape_words hk s w.tag_same w.key_same (λ n j h e i. same_word (w.child_same n j h i))
    (λ n h e. w.pend_same n h ∙ s.leaf_clean n h e)

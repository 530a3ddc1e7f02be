-- Making, return by return: what the writes of a fresh tree leave is the fresh block.
use Prim.Native.Nat.{ℕ, suc, ◌+◌, ◌*◌, ◌-◌, ◌≤◌, ◌<◌}
use mathlib.Core.Path.{◌≡◌, refl, sym, ap, ◌∙◌}
use mathlib.Core.Bool.{Bool, true, false, not}
use mathlib.Core.List.{List, [], ◌∷◌, ◌++◌, append_assoc}
use native.Mathlib.Omega.{arith}
use native.Mathlib.Nat.{mul-le-mul_right}
use lib.Dec.{ltb, eqb}
use borrow.Author.Tests.{ltb-true, eqb-false, lt-ltb, le-ltb}
use lib.ListN.{length, get_or, drop, replicate, length-append, length-replicate, get_or-replicate, replicate-append-replicate}
use lib.Seq.{sets, set_at}
use Rattle.std.specs.Prelude.{Ok, Err}
use Rattle.tables.specs.Choice.{pick, none, nor}
use Rattle.tables.specs.Refusal.{refusal}
use Rattle.tables.specs.Numbers.{k_stored, fresh_nodes, infinity, numbers_good, node_words, key_room}
use Rattle.tables.specs.Layout.{block_words, node_at, over_front}
use Rattle.nodes.specs.Node.{image_word, internal_image}
use Rattle.fresh.specs.Fresh.{fresh_header, header_image, root_image, dummy_image, fresh_block, making_reasons, make_out, make_of, written_fresh}
use Rattle.tables.specs.Header.{header_from}
use Rattle.tables.specs.declared.header.Header.{Header}
use Rattle.tables.specs.declared.numbers.Refusal.TheVariants.{MakingNumber, TooShort}
use Rattle.tables.proofs.Lists.{length-listed, listed_ext}
use Rattle.tables.proofs.OneToOne.{none_accepts}
use Rattle.tables.proofs.Limits.{NumberLimits, number_limits}

-- words stored over as many words in the middle of a list
pub sets_over : (p q s vs : List ℕ) (i : ℕ) → length p ≡ i → length q ≡ length vs → sets (p ++ (q ++ s)) i vs ≡ p ++ (vs ++ s)
sets_over p [] s [] i e f = refl
sets_over p [] s (v ∷ vs) i e f = absurd (omega arith)
sets_over p (x ∷ q) s [] i e f = absurd (omega arith)
sets_over p (x ∷ q) s (v ∷ vs) i e f =
    rw (set_at p x (q ++ s) v i e)
    (ap (λ (l : List ℕ). sets l (suc i) vs) (sym (append_assoc p (v ∷ []) (q ++ s)))
    ∙ sets_over (p ++ (v ∷ [])) q s vs (suc i) (length-append p (v ∷ []) ∙ longer (length p) i e) (omega arith)
    ∙ append_assoc p (v ∷ []) (vs ++ s))
  where
    longer : (n i : ℕ) → n ≡ i → n + 1 ≡ suc i
    longer n i e = omega arith

-- of a key array full of infinity, an internal node shows k − 1
pub only_infinity : (k first : ℕ) → k ≤ 8 → internal_image k (replicate key_room infinity) first 0 ≡ internal_image k (replicate (k - 1) infinity) first 0
unfolding pick
only_infinity k first small = listed_ext _ _ 0 (node_words k) (λ (j : ℕ) (p : j < node_words k). word (0 + j))
  where
    go : (o : ℕ) (t u : Bool) (rest : ℕ) → eqb o 0 ≡ t → ltb o k ≡ u →
        pick t k (pick u (get_or (replicate key_room infinity) (o - 1) 0) rest) ≡ pick t k (pick u (get_or (replicate (k - 1) infinity) (o - 1) 0) rest)
    go o true u rest e f = cc
    go o false false rest e f = cc
    go o false true rest e f =
        let p : o < k = ltb-true o k f in
        let q : o - 1 < k - 1 = omega (arith, eqb-false o 0 e) in
        cc (get_or-replicate 8 (o - 1) infinity 0 (omega arith), get_or-replicate (k - 1) (o - 1) infinity 0 q)

    word : (o : ℕ) → image_word k k (replicate key_room infinity) first 0 o ≡ image_word k k (replicate (k - 1) infinity) first 0 o
    word o = go o (eqb o 0) (ltb o k) _ refl refl

-- zeros in two runs
zeros : (a b n : ℕ) (s : List ℕ) → n ≡ a + b → replicate n 0 ++ s ≡ replicate a 0 ++ (replicate b 0 ++ s)
zeros a b n s e = rw (e, ← replicate-append-replicate {A = ℕ} a b 0) (append_assoc (replicate a 0) (replicate b 0) s)

cleared : (w left n : ℕ) (s : List ℕ) → n ≡ 6 + (w + (w + left)) → replicate n 0 ++ s ≡ replicate 6 0 ++ (replicate w 0 ++ (replicate w 0 ++ (replicate left 0 ++ s)))
cleared w left n s e =
    zeros 6 (w + (w + left)) n s e ∙ ap (λ (l : List ℕ). replicate 6 0 ++ l) (zeros w (w + left) (w + (w + left)) s refl ∙ ap (λ (l : List ℕ). replicate w 0 ++ l) (zeros w left (w + left) s refl))

-- three runs of words stored one behind the other from the front on
three_runs : (a b c x y z s t : List ℕ) (i j : ℕ) → length x ≡ length a → length y ≡ length b → length z ≡ length c → length a ≡ i → length a + length b ≡ j →
    sets (sets (sets (x ++ (y ++ (z ++ (s ++ t)))) 0 a) i b) j c ≡ (a ++ (b ++ (c ++ s))) ++ t
three_runs a b c x y z s t i j p q r e f =
    ap (λ (l : List ℕ). sets (sets l i b) j c) (sets_over [] x (y ++ (z ++ (s ++ t))) a 0 refl p)
    ∙ ap (λ (l : List ℕ). sets l j c) (sets_over a y (z ++ (s ++ t)) b i e q ∙ sym (append_assoc a b (z ++ (s ++ t))))
    ∙ sets_over (a ++ b) z (s ++ t) c j (length-append a b ∙ f) r
    ∙ simp append_assoc

-- the writes of a fresh tree over a cleared block
pub fresh_runs : (h : Header) (t : List ℕ) → h.k ≤ 8 → 2 ≤ h.nodes → written_fresh h (replicate (block_words h) 0 ++ t) ≡ fresh_block h ++ t
fresh_runs h t small two =
    ap (λ (l : List ℕ). written_fresh h l) (cleared w left (block_words h) t room)
    ∙ rw (only_infinity h.k 2 small, only_infinity h.k (h.k + 2) small)
    (three_runs (header_image h) (root_image h.k) (dummy_image h.k) (replicate 6 0) (replicate w 0) (replicate w 0) (replicate left 0) t (node_at h 1 0) (node_at h 2 0) refl (as_long 2) (as_long (h.k + 2)) (omega arith) next)
  where
    w : ℕ
    w = node_words h.k

    left : ℕ
    left = block_words h - 6 - 2 * w

    room : block_words h ≡ 6 + (w + (w + left))
    room = omega (arith, mul-le-mul_right w two)

    as_long : (first : ℕ) → length {A = ℕ} (replicate w 0) ≡ length (internal_image h.k (replicate (h.k - 1) infinity) first 0)
    as_long first = length-replicate {A = ℕ} w 0 ∙ sym (length-listed _ 0 w)

    next : 6 + length (root_image h.k) ≡ node_at h 2 0
    next = omega (arith, length-listed (image_word h.k h.k (replicate (h.k - 1) infinity) 2 0) 0 w)

pub fresh-length : (h : Header) → 2 ≤ h.nodes → length (fresh_block h) ≡ block_words h
fresh-length h two =
    simp (length-append, length-listed (image_word h.k h.k (replicate (h.k - 1) infinity) 2 0) 0 w, length-listed (image_word h.k h.k (replicate (h.k - 1) infinity) (h.k + 2) 0) 0 w, length-replicate {A = ℕ})
    (omega (arith, mul-le-mul_right w two))
  where
    w : ℕ
    w = node_words h.k

pub fresh_over : (h : Header) (b : List ℕ) → h.k ≤ 8 → 2 ≤ h.nodes → written_fresh h (over_front (replicate (block_words h) 0) b) ≡ over_front (fresh_block h) b
fresh_over h b small two =
    fresh_runs h (drop (length {A = ℕ} (replicate (block_words h) 0)) b) small two
    ∙ ap (λ (l : ℕ). fresh_block h ++ drop l b) (length-replicate {A = ℕ} (block_words h) 0 ∙ sym (fresh-length h two))

module _ (b : List ℕ) (k p n r m : ℕ) (t : Bool) (e : m ≡ k_stored k) (f : t ≡ numbers_good m p n r) where
  pub make_bad : t ≡ false → make_out (Err MakingNumber) b ≡ make_of b k p n r
  unfolding pick
  make_bad g = cc

  module _ (u w : ℕ) (g : t ≡ true) (d : u ≡ fresh_nodes m) (l : w ≡ block_words (header_from m p n u r 0)) where
    pub make_short : length b < w → make_out (Err TooShort) b ≡ make_of b k p n r
    unfolding pick
    make_short q = cc (lt-ltb (length b) w q)

    pub make_done : (c x : List ℕ) → w ≤ length b → c ≡ over_front (replicate w 0) b → x ≡ written_fresh (header_from m p n u r 0) c → make_out (Ok tt) x ≡ make_of b k p n r
    make_done c x q i j = ap (λ (y : List ℕ). make_out (Ok tt) y) made ∙ sym (none_accepts (λ n. make_out (Err (refusal n)) b) _ (making_reasons b k p n r) (nor (ap not good) (nor (le-ltb (length b) (block_words h) (rw long at q)) none)))
      where
        h : Header
        h = fresh_header k p n r

        same : header_from m p n u r 0 ≡ h
        same = cc

        long : w ≡ block_words h
        long = l ∙ ap block_words same

        good : numbers_good (k_stored k) p n r ≡ true
        good = cc

        limits : NumberLimits (k_stored k) p n r
        limits = number_limits (k_stored k) p n r good

        made : x ≡ over_front (fresh_block h) b
        made = j ∙ ap (λ (y : Header). written_fresh y c) same ∙ ap (λ (y : List ℕ). written_fresh h y) (rw long at i) ∙ fresh_over h b limits.k_high (omega (arith, limits))

pub ruleset making = (make_bad, make_short, make_done)

-- Laws of a node's keys, return by return and turn by turn: order, first key that passes a test, a key put in or taken out, a sprout.
use Prim.Native.Nat.{ℕ, zero, suc, ◌+◌, ◌-◌, ◌≤◌, ◌<◌}
use mathlib.Core.Path.{◌≡◌, refl, sym, ap, subst, ◌∙◌}
use mathlib.Core.Bool.{Bool, true, false, ◌&&◌}
use mathlib.Core.List.{List, [], ◌∷◌, ◌++◌}
use native.Mathlib.Omega.{arith}
use native.Mathlib.Numerals.{add-one}
use native.Mathlib.Nat.{add-zero}
use lib.Dec.{ltb, eqb, leb-suc-suc}
use borrow.Author.Tests.{ltb-true, ltb-false, eqb-true, eqb-false, lt-ltb}
use lib.ListN.{length, get_or, take, drop, get_or-append, get_or-eq_default, drop_of_length-le}
use lib.Seq.{drop-cons, get_or-drop, get_or-take, get_or_at, get_or-append-add, length-take-le}
use denote.Param.Members.{Mut, Called}
use Rattle.std.specs.List.{list_all, find, range_with_len}
use Rattle.std.specs.Option.{unwrap_or, option_map}
use Rattle.std.proofs.Common.{Option, Some, cond}
use Rattle.std.proofs.lemmas.Iterator.Adapters.{option_map_id}
use Rattle.std.specs.Array.{IsFromFnResult, IsFromFnResultFrom}
use Rattle.tables.specs.Choice.{pick, both, listed}
use Rattle.tables.specs.Numbers.{infinity}
use Rattle.tables.specs.Layout.{key_word}
use Rattle.nodes.specs.Keys.{keys_of, rises, holds, first_at, greater_at, equal_at, put_in, taken_out, put_in_word, taken_out_word}
use Rattle.tables.specs.declared.header.Header.{Header}
use Rattle.tables.proofs.Lists.{length-listed, get_or-listed, moved}

module _ (b : List ℕ) (h : Header) (node count : ℕ) where
  pub keys_length : length (keys_of b h node count) ≡ count
  keys_length = length-listed _ 1 count

  pub keys_at : (i r past : ℕ) → i < count → r ≡ key_word b h node (i + 1) → r ≡ get_or (keys_of b h node count) i past
  keys_at i r past p e = e ∙ sym (get_or-listed (λ j. key_word b h node j) 1 count i past p ∙ ap (λ (j : ℕ). key_word b h node j) (let z : 1 + i ≡ i + 1 = omega arith in z))

  pub keys_past : (i past : ℕ) → count ≤ i → past ≡ get_or (keys_of b h node count) i past
  keys_past i past p = sym (get_or-eq_default (keys_of b h node count) past (rw keys_length p))

-- a list's elements from place a on, by its rule
next_key : (f : ℕ → ℕ) (i a m n d : ℕ) → m ≡ a + n → get_or (listed f i m) a d ≡ get_or (listed f (i + a) n) 0 d
unfolding listed
next_key f i zero m n d e = let z : m ≡ n = omega arith in rw (z, add-zero i) refl
next_key f i (suc a) zero n d e = absurd (omega arith)
next_key f i (suc a) (suc m) n d e = next_key f (i + 1) a m n d (omega arith) ∙ ap (λ (j : ℕ). get_or (listed f j n) 0 d) (moved i a)

and_both : (s t u v : Bool) → s ≡ t → u ≡ v → (s && u) ≡ both t v
unfolding both
and_both true t u v e f = rw (← e) f
and_both false t u v e f = rw (← e) refl

-- each key below the next, place by place
rises_from : (f : ℕ → ℕ) (m a n : ℕ) → m ≡ a + n → list_all (λ i. ltb (f (i + 1)) (get_or (listed f 1 m) (i + 1) infinity)) (range_with_len a n) ≡ rises (listed f (a + 1) n)
unfolding listed rises
rises_from f m a zero e = refl
rises_from f m a (suc n) e =
    let z : 1 + (a + 1) ≡ a + 1 + 1 = omega arith in
    and_both _ _ _ _ (ap (λ (x : ℕ). ltb (f (a + 1)) x) (next_key f 1 (a + 1) m n infinity (omega arith) ∙ ap (λ (j : ℕ). get_or (listed f j n) 0 infinity) z))
    (rises_from f m (a + 1) n (omega arith))

pub rises_all : (b : List ℕ) (h : Header) (node count : ℕ) → list_all (λ i. ltb (key_word b h node (i + 1)) (get_or (keys_of b h node count) (i + 1) infinity)) (range_with_len 0 count) ≡ rises (keys_of b h node count)
rises_all b h node count = rises_from (λ i. key_word b h node i) count 0 count (omega arith) ∙ (let z : 0 + 1 ≡ 1 = omega arith in rw z refl)

-- the first place whose key passes, or where none does, the number of keys
first_found : (test : ℕ → Bool) (f : ℕ → ℕ) (a n m : ℕ) → m ≡ a + n → unwrap_or (find (λ i. test (f (i + 1))) (range_with_len a n)) m ≡ a + first_at test (listed f (a + 1) n)
unfolding listed first_at pick
first_found test f a zero m e = e
first_found test f a (suc n) m e = go (test (f (a + 1))) (first_found test f (a + 1) n m (omega arith))
  where
    go : (t : Bool) → unwrap_or (find (λ i. test (f (i + 1))) (range_with_len (a + 1) n)) m ≡ a + 1 + first_at test (listed f (a + 1 + 1) n) →
        unwrap_or (cond t (Some a) (find (λ i. test (f (i + 1))) (range_with_len (a + 1) n))) m ≡ a + pick t 0 (first_at test (listed f (a + 1 + 1) n) + 1)
    go true z = sym (add-zero a)
    go false z = z ∙ (let y : (j : ℕ) → a + 1 + j ≡ a + (j + 1) = λ j. omega arith in y _)

pub keys_first : (b : List ℕ) (h : Header) (node count : ℕ) (test : ℕ → Bool) (r : Option ℕ) (n m : ℕ) → option_map (λ x. x) r ≡ find (λ i. test (key_word b h node (i + 1))) (range_with_len 0 count) → n ≡ count → m ≡ unwrap_or r n →
    m ≡ first_at test (keys_of b h node count)
keys_first b h node count test r n m e p q =
    q
    ∙ ap (λ (o : Option ℕ). unwrap_or o n) (sym (option_map_id r) ∙ e)
    ∙ first_found test (λ i. key_word b h node i) 0 count n (omega arith)
    ∙ (let z : 0 + 1 ≡ 1 = omega arith in let y : (j : ℕ) → 0 + j ≡ j = λ j. omega arith in rw z (y _))

-- the first key equal to x lies in the list exactly when the list holds x
pub holds_is : (x : ℕ) (ks : List ℕ) → ltb (equal_at x ks) (length ks) ≡ holds x ks
unfolding first_at holds pick
holds_is x [] = refl
holds_is x (y ∷ ys) = go (eqb x y) (holds_is x ys)
  where
    up : (m : ℕ) → ltb (m + 1) (suc (length ys)) ≡ ltb m (length ys)
    up m = rw (add-one m) (leb-suc-suc (suc m) (length ys))

    go : (t : Bool) → ltb (equal_at x ys) (length ys) ≡ holds x ys → ltb (pick t 0 (equal_at x ys + 1)) (suc (length ys)) ≡ pick t true (holds x ys)
    go true e = lt-ltb 0 (suc (length ys)) (omega arith)
    go false e = up (equal_at x ys) ∙ e

pub holds_by : (b : List ℕ) (h : Header) (node count x m n : ℕ) → m ≡ equal_at x (keys_of b h node count) → n ≡ count → ltb m n ≡ holds x (keys_of b h node count)
holds_by b h node count x m n e l = rw l (of_length (keys_of b h node count) (keys_length b h node count) e)
  where
    of_length : (ks : List ℕ) → length ks ≡ count → m ≡ equal_at x ks → ltb m count ≡ holds x ks
    of_length ks n e = rw (e, ← n) (holds_is x ks)

pub first_in : (test : ℕ → Bool) (ks : List ℕ) → first_at test ks ≤ length ks
unfolding first_at pick
first_in test [] = omega arith
first_in test (y ∷ ys) = go (test y) (first_in test ys)
  where
    go : (t : Bool) → first_at test ys ≤ length ys → pick t 0 (first_at test ys + 1) ≤ suc (length ys)
    go true p = omega arith
    go false p = omega arith

pub first_of : (test : ℕ → Bool) (f : ℕ → ℕ) (i n r : ℕ) → r ≡ first_at test (listed f i n) → r ≤ n
first_of test f i n r e = rw e (rw (length-listed f i n) at (first_in test (listed f i n)))

-- what stands at i, before and behind a place at which a list is cut
module _ (ks : List ℕ) (at : ℕ) (p : at ≤ length ks) where
  before_cut : (rest : List ℕ) (i : ℕ) → i < at → get_or (take at ks ++ rest) i 0 ≡ get_or ks i 0
  before_cut rest i q = get_or-append (take at ks) rest 0 i (rw (length-take-le at ks p) q) ∙ get_or-take at ks i 0 q

  behind_cut : (rest : List ℕ) (j : ℕ) → get_or (take at ks ++ rest) (at + j) 0 ≡ get_or rest j 0
  behind_cut rest j = rw (length-take-le at ks p) at (get_or-append-add (take at ks) rest j 0)

  pub put_in_at : (x i : ℕ) → put_in_word x ks at i ≡ get_or (take at ks ++ x ∷ drop at ks) i 0
  unfolding pick
  put_in_at x i = go (ltb i at) (eqb i at) refl refl
    where
      after : (i at : ℕ) → at < i → i ≡ at + suc (i - 1 - at)
      after i at q = omega arith

      back : (i at : ℕ) → at < i → at + (i - 1 - at) ≡ i - 1
      back i at q = omega arith

      go : (t u : Bool) → ltb i at ≡ t → eqb i at ≡ u → pick t (get_or ks i 0) (pick u x (get_or ks (i - 1) 0)) ≡ get_or (take at ks ++ x ∷ drop at ks) i 0
      go true u e f = sym (before_cut (x ∷ drop at ks) i (ltb-true i at e))
      go false true e f = sym (get_or_at (take at ks) x (drop at ks) 0 i (length-take-le at ks p ∙ sym (eqb-true i at f)))
      go false false e f =
          let q : at < i = omega (arith, ltb-false i at e, eqb-false i at f) in
          sym (ap (λ (j : ℕ). get_or (take at ks ++ x ∷ drop at ks) j 0) (after i at q)
          ∙ behind_cut (x ∷ drop at ks) (suc (i - 1 - at))
          ∙ get_or-drop at ks (i - 1 - at) 0
          ∙ ap (λ (j : ℕ). get_or ks j 0) (back i at q))

  pub taken_out_at : (i : ℕ) → taken_out_word ks at i ≡ get_or (take at ks ++ drop (at + 1) ks) i 0
  unfolding pick
  taken_out_at i = go (ltb i at) refl
    where
      after : (i at : ℕ) → at ≤ i → i ≡ at + (i - at)
      after i at q = omega arith

      back : (i at : ℕ) → at ≤ i → at + 1 + (i - at) ≡ i + 1
      back i at q = omega arith

      go : (t : Bool) → ltb i at ≡ t → pick t (get_or ks i 0) (get_or ks (i + 1) 0) ≡ get_or (take at ks ++ drop (at + 1) ks) i 0
      go true e = sym (before_cut (drop (at + 1) ks) i (ltb-true i at e))
      go false e =
          let q : at ≤ i = ltb-false i at e in
          sym (ap (λ (j : ℕ). get_or (take at ks ++ drop (at + 1) ks) j 0) (after i at q)
          ∙ behind_cut (drop (at + 1) ks) (i - at)
          ∙ get_or-drop (at + 1) ks (i - at) 0
          ∙ ap (λ (j : ℕ). get_or ks j 0) (back i at q))

-- an array made place by place, where a call at place i gives rule i, is a list of the rule
module _ {F B : Type 0} (g : Mut F (ℕ × Unit {0}) B) (f : F) (ys : List B) (rule : ℕ → B) (n : ℕ) (gives : (i : ℕ) (y : B) (q : F) → i < n → Called g f (i, tt) y q → (q ≡ f) × (y ≡ rule i)) where
  from_place : (i m : ℕ) → i + m ≡ length ys → length ys ≡ n → IsFromFnResultFrom g f ys i m → drop i ys ≡ listed rule i m
  unfolding listed
  from_place i zero e l r = drop_of_length-le ys {i = i} (omega arith)
  from_place i (suc m) e l (q, y, is, call, rest) =
      let z : (q ≡ f) × (y ≡ rule i) = gives i y q (omega arith) call in
      let after : drop (i + 1) ys ≡ listed rule (i + 1) m = from_place (i + 1) m (omega arith) l (subst (λ (p : F). IsFromFnResultFrom g p ys (i + 1) m) z.0 rest) in
      rw (drop-cons ys i y (omega arith), is.1 y, z.1, ← add-one i, after) refl

  pub made_listed : IsFromFnResult g f ys n → ys ≡ listed rule 0 n
  made_listed r = from_place 0 n (omega (arith, r.long)) r.long r.each

pub put_word : (x : ℕ) (ks : List ℕ) (at i w : ℕ) → at ≡ greater_at x ks → w ≡ put_in_word x ks at i → w ≡ get_or (put_in x ks) i 0
put_word x ks at i w e f = f ∙ rw e (put_in_at ks (greater_at x ks) (first_in _ ks) x i)

pub taken_word : (x : ℕ) (ks : List ℕ) (at i w : ℕ) → at ≡ equal_at x ks → w ≡ taken_out_word ks at i → w ≡ get_or (taken_out x ks) i 0
taken_word x ks at i w e f = f ∙ rw e (taken_out_at ks (equal_at x ks) (first_in _ ks) i)

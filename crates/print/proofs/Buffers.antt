-- Writing, function by function: bytes one after another, a number's digits, and lines put together of their fields.
use Prim.Native.Nat.{ℕ, zero, suc, ◌+◌, ◌-◌, min, ◌/◌, ◌%◌, ◌≤◌, ◌<◌}
use mathlib.Core.Path.{◌≡◌, refl, sym, ap, ◌∙◌}
use mathlib.Core.Bool.{Bool, true, false}
use mathlib.Core.List.{List, [], ◌∷◌, ◌++◌, append_assoc}
use native.Mathlib.Omega.{arith}
use native.Mathlib.Nat.{div-eq_of_lt, mod-eq_of_lt}
use native.Mathlib.Numerals.{add-one}
use lib.Dec.{ltb}
use lib.ListN.{length, set, take, drop, drop_of_length-le, length-set, take-append-drop}
use lib.Seq.{sets, sets-eq, length-take-le}
use borrow.Rule.Slice.PartMut.{put_mid, mid_len, Post-is, same_len_mid}
use borrow.Author.Tests.{lt-ltb, le-ltb, ltb-true, ltb-false, ne_eqb}
use Rattle.tables.specs.Choice.{pick}
use Rattle.print.specs.Text.{bytes, digits_of, decimal}
use Rattle.print.specs.Writing.{Out, out, written, named, op_word, op_field, answer_word, answer_field}

pub written_past : (b : List ℕ) (at : ℕ) (xs : List ℕ) → length b ≤ at → out at b ≡ written b at xs
unfolding written pick
written_past b at [] p = refl
written_past b at (x ∷ xs) p = rw (le-ltb at (length b) p)

-- what is written behind what was written is written at once
pub written-append : (b : List ℕ) (at : ℕ) (xs ys : List ℕ) → written (written b at xs).buffer (written b at xs).at ys ≡ written b at (xs ++ ys)
unfolding written pick
written-append b at [] ys = refl
written-append b at (x ∷ xs) ys = go (ltb at (length b)) refl (written-append (set b at x) (at + 1) xs ys)
  where
    go : (t : Bool) → ltb at (length b) ≡ t → written (written (set b at x) (at + 1) xs).buffer (written (set b at x) (at + 1) xs).at ys ≡ written (set b at x) (at + 1) (xs ++ ys) →
        written (pick t (written (set b at x) (at + 1) xs) (out at b)).buffer (pick t (written (set b at x) (at + 1) xs) (out at b)).at ys
        ≡ pick t (written (set b at x) (at + 1) (xs ++ ys)) (out at b)
    go true e r = r
    go false e r = sym (written_past b at ys (ltb-false at (length b) e))

-- what has room stands in the buffer, and nothing else has changed
pub written-sets : (b : List ℕ) (at : ℕ) (t : List ℕ) → at + length t ≤ length b → written b at t ≡ out (at + length t) (sets b at t)
unfolding written pick
written-sets b at [] p = ap (λ (i : ℕ). out i b) (let z : at ≡ at + 0 = omega arith in z)
written-sets b at (x ∷ t) p =
    rw (lt-ltb at (length b) (omega arith))
    (written-sets (set b at x) (at + 1) t (rw length-set (omega arith))
    ∙ rw (add-one at) (ap (λ (i : ℕ). out i (sets (set b at x) (suc at) t)) (let z : suc at + length t ≡ at + suc (length t) = omega arith in z)))

sets_mid : (b t : List ℕ) (at : ℕ) → at + length t ≤ length b → sets b at t ≡ put_mid at (at + length t - at) b t
sets_mid b t at p =
    sets-eq t b at p ∙ (append_assoc (take at b) t (drop (at + length t) b) ∙ ap (λ (r : List ℕ). take at b ++ (t ++ r)) (sym (Post-is at (at + length t) b (omega arith))))

-- bytes are copied as far as the buffer reaches
pub written_part : (b t e : List ℕ) (at n : ℕ) → at < length b → n ≡ min (length t) (length b - at) → e ≡ take n t → out (at + n) (put_mid at (at + n - at) b e) ≡ written b at t
unfolding written
written_part b t e at n p q r = go (ltb n (length t)) refl
  where
    k : length (take n t) ≡ n
    k = length-take-le n t (omega arith)

    c : List ℕ
    c = put_mid at (at + n - at) b (take n t)

    front : written b at (take n t) ≡ out (at + n) c
    front =
        let h : at + length (take n t) ≤ length b = rw k (omega arith) in
        written-sets b at (take n t) h ∙ rw (sets_mid b (take n t) at h, k)

    long : length c ≡ length b
    long = same_len_mid at (at + n - at) b (take n t) (k ∙ sym (let z : at + n - at ≡ n = omega arith in mid_len at (at + n) b (omega arith) ∙ z))

    whole : written b at t ≡ written c (at + n) (drop n t)
    whole =
        ap (λ (l : List ℕ). written b at l) (sym (take-append-drop n t))
        ∙ (sym (written-append b at (take n t) (drop n t)) ∙ ap (λ (o : Out). written o.buffer o.at (drop n t)) front)

    go : (u : Bool) → ltb n (length t) ≡ u → out (at + n) (put_mid at (at + n - at) b e) ≡ written b at t
    go true f = rw r (written_past c (at + n) (drop n t) (let h : n < length t = ltb-true n (length t) f in omega (arith, long)) ∙ sym whole)
    go false f = rw (r, whole, drop_of_length-le t (ltb-false n (length t) f))

pub joined : (b c d : List ℕ) (at i r : ℕ) (xs ys : List ℕ) → out r d ≡ written c i ys → out i c ≡ written b at xs → out r d ≡ written b at (xs ++ ys)
joined b c d at i r xs ys e f =
    e ∙ (ap (λ (o : Out). written o.buffer o.at ys) f ∙ written-append b at xs ys)

-- the buffer is, when it is given back, what it was behind the last of what was written
pub given_back : (b d x : List ℕ) (at r : ℕ) (t : List ℕ) → out r d ≡ written b at t → x ≡ d → out r x ≡ written b at t
given_back b d x at r t e f = rw f e

-- the same for the three, four and six parts of a line
module _ (b : List ℕ) (at : ℕ) (s t u : List ℕ) (b1 b2 b3 : List ℕ) (i1 i2 i3 : ℕ) (e3 : out i3 b3 ≡ written b2 i2 u) (e2 : out i2 b2 ≡ written b1 i1 t)
    (e1 : out i1 b1 ≡ written b at s) where
  pub joined3 : out i3 b3 ≡ written b at (s ++ t ++ u)
  joined3 = joined b b2 b3 at i2 i3 (s ++ t) u e3 (joined b b1 b2 at i1 i2 s t e2 e1)

module _ (b : List ℕ) (at : ℕ) (s t u v : List ℕ) (b1 b2 b3 b4 : List ℕ) (i1 i2 i3 i4 : ℕ) (e4 : out i4 b4 ≡ written b3 i3 v) (e3 : out i3 b3 ≡ written b2 i2 u)
    (e2 : out i2 b2 ≡ written b1 i1 t) (e1 : out i1 b1 ≡ written b at s) where
  pub joined4 : out i4 b4 ≡ written b at (s ++ t ++ u ++ v)
  joined4 = joined b b3 b4 at i3 i4 (s ++ t ++ u) v e4 (joined3 b at s t u b1 b2 b3 i1 i2 i3 e3 e2 e1)

module _ (b : List ℕ) (at : ℕ) (s t u v w x : List ℕ) (b1 b2 b3 b4 b5 b6 : List ℕ) (i1 i2 i3 i4 i5 i6 : ℕ) (e6 : out i6 b6 ≡ written b5 i5 x)
    (e5 : out i5 b5 ≡ written b4 i4 w) (e4 : out i4 b4 ≡ written b3 i3 v) (e3 : out i3 b3 ≡ written b2 i2 u) (e2 : out i2 b2 ≡ written b1 i1 t)
    (e1 : out i1 b1 ≡ written b at s) where
  pub joined6 : out i6 b6 ≡ written b at (s ++ t ++ u ++ v ++ w ++ x)
  joined6 = joined3 b at (s ++ t ++ u ++ v) w x b4 b5 b6 i4 i5 i6 e6 e5 (joined4 b at s t u v b1 b2 b3 b4 i1 i2 i3 i4 e4 e3 e2 e1)

-- a number's digits do not depend on how many were allowed for
digits_enough : (f g n : ℕ) → n ≤ f → n ≤ g → digits_of f n ≡ digits_of g n
unfolding digits_of
digits_enough zero zero n p q = refl
digits_enough zero (suc g) zero p q = refl
digits_enough zero (suc g) (suc n) p q = absurd (omega arith)
digits_enough (suc f) zero zero p q = refl
digits_enough (suc f) zero (suc n) p q = absurd (omega arith)
digits_enough (suc f) (suc g) zero p q = refl
digits_enough (suc f) (suc g) (suc n) p q = rw (digits_enough f g (suc n / 10) (omega arith) (omega arith))

no_digits : (f : ℕ) → digits_of f 0 ≡ []
unfolding digits_of
no_digits zero = refl
no_digits (suc f) = refl

pub decimal_one : (n : ℕ) → n < 10 → decimal n ≡ (48 + n) ∷ []
unfolding decimal digits_of pick
decimal_one zero p = refl
decimal_one (suc n) p = rw (ne_eqb (suc n) 0 (omega arith), div-eq_of_lt p, mod-eq_of_lt p, no_digits n)

pub decimal_more : (n : ℕ) → 10 ≤ n → decimal n ≡ decimal (n / 10) ++ ((48 + n % 10) ∷ [])
unfolding decimal digits_of pick
decimal_more zero p = absurd (omega arith)
decimal_more (suc n) p =
    rw (ne_eqb (suc n) 0 (omega arith), ne_eqb (suc n / 10) 0 (omega arith), digits_enough n (suc n / 10) (suc n / 10) (omega arith) (omega arith))

-- a number's last digit, behind those before it
module _ (b d : List ℕ) (at r n : ℕ) where
  pub number_one : n < 10 → out r d ≡ written b at ((48 + n % 10) ∷ []) → out r d ≡ written b at (decimal n)
  number_one p e = rw (decimal_one n p, let z : 48 + n ≡ 48 + n % 10 = ap (λ (k : ℕ). 48 + k) (sym (mod-eq_of_lt p)) in z) e

  pub number_more : (c : List ℕ) (i : ℕ) → 10 ≤ n → out i c ≡ written b at (decimal (n / 10)) → out r d ≡ written c i ((48 + n % 10) ∷ []) → out r d ≡ written b at (decimal n)
  number_more c i p e f = rw (decimal_more n p) (joined b c d at i r _ _ f e)

-- a word by its number
module _ (op : ℕ) where
  pub op_1 : op ≡ 1 → bytes "find" ≡ op_word op
  unfolding pick
  op_1 e = rw e

  pub op_2 : op ≡ 2 → bytes "insert" ≡ op_word op
  unfolding pick
  op_2 e = rw e

  pub op_3 : op ≡ 3 → bytes "delete" ≡ op_word op
  unfolding pick
  op_3 e = rw e

  pub op_else : (op ≡ 1 → ⊥) → (op ≡ 2 → ⊥) → (op ≡ 3 → ⊥) → [] ≡ op_word op
  unfolding pick
  op_else p q r = rw (ne_eqb op 1 p, ne_eqb op 2 q, ne_eqb op 3 r)

module _ (a : ℕ) where
  pub answer_0 : a ≡ 0 → bytes "no" ≡ answer_word a
  unfolding pick
  answer_0 e = rw e

  pub answer_1 : a ≡ 1 → bytes "yes" ≡ answer_word a
  unfolding pick
  answer_1 e = rw e

  pub answer_2 : a ≡ 2 → bytes "full" ≡ answer_word a
  unfolding pick
  answer_2 e = rw e

  pub answer_else : (a ≡ 0 → ⊥) → (a ≡ 1 → ⊥) → (a ≡ 2 → ⊥) → [] ≡ answer_word a
  unfolding pick
  answer_else p q r = rw (ne_eqb a 0 p, ne_eqb a 1 q, ne_eqb a 2 r)

pub ruleset words = (op_1, op_2, op_3, op_else, answer_0, answer_1, answer_2, answer_else)

-- a field: its name, then what it holds
module _ (b c d : List ℕ) (at i r : ℕ) where
  pub named_by : (name : List ℕ) (n : ℕ) → out i c ≡ written b at name → out r d ≡ written c i (decimal n) → out r d ≡ written b at (named name n)
  unfolding named
  named_by name n e f = joined b c d at i r name (decimal n) f e

  pub op_by : (op : ℕ) → out i c ≡ written b at (bytes " op=") → out r d ≡ written c i (op_word op) → out r d ≡ written b at (op_field op)
  unfolding op_field
  op_by op e f = joined b c d at i r (bytes " op=") (op_word op) f e

  pub answer_by : (a : ℕ) → out i c ≡ written b at (bytes " answer=") → out r d ≡ written c i (answer_word a) → out r d ≡ written b at (answer_field a)
  unfolding answer_field
  answer_by a e f = joined b c d at i r (bytes " answer=") (answer_word a) f e

pub ruleset fields = (named_by, op_by, answer_by)

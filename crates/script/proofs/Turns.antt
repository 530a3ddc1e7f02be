-- Reading, function by function: what the library's methods on a slice give is what the definitions say.
use Rattle.std.proofs.Common.{rules, ◌==◌, ◌||◌, ◌≡◌, ℕ, zero, suc, ◌+◌, ◌-◌, ◌*◌, ◌<◌, ◌≤◌, Bool, true, false, not, ◌&&◌, Option, Some, None, option_copied, MatchOption, List, [], ◌∷◌, length, get_or, take, drop, nat_eq, eqb, leb, refl, sym, ◌∙◌, arith}
use Rattle.std.specs.Bool.{then_some}
use Rattle.std.specs.Borrow.{Bor}
use lib.Pointwise.{pointwise}
use lib.ListN.{drop_of_length-le}
use borrow.Author.Tests.{lt-leb, le-leb, lt-ltb, le-ltb, eqb-true, ne_eqb}
use Rattle.tables.specs.Choice.{pick, both}
use Rattle.tables.proofs.Lists.{from_here}
use Rattle.std.specs.Char.{is_ascii_digit}
use Rattle.print.specs.Text.{is_digit, in_word, bytes, front, behind, value_from, value_of}
use Rattle.script.specs.Reading.{first_of, making_with_k, making_from, start_of, steps_of, list_of, longest, line_of, expect, ended, at_end, most, number_in, op_in, is_word, op_of}
use Rattle.script.specs.declared.lines.Line.{Line}
use Rattle.script.specs.Position.{value_in}
use Rattle.script.proofs.Runs.{value_grows}

expect_is : (w l : List ℕ) → expect w l ≡ pick (pointwise nat_eq (take (length w) l) w) (Some (drop (length w) l)) None
unfolding expect pick
expect_is [] l = refl
expect_is (c ∷ w) [] = refl
expect_is (c ∷ w) (x ∷ l) = go (nat_eq x c) (expect_is w l)
  where
    go : (t : Bool) → expect w l ≡ pick (pointwise nat_eq (take (length w) l) w) (Some (drop (length w) l)) None →
        pick t (expect w l) None ≡ pick (t && pointwise nat_eq (take (length w) l) w) (Some (drop (length w) l)) None
    go true e = e
    go false e = refl

pub literal_is : (r : Option (Bor (List ℕ))) (w l : List ℕ) →
    MatchOption r (pointwise nat_eq (take (length w) l) w ≡ false) (λ x. (pointwise nat_eq (take (length w) l) w ≡ true) × (x.now ≡ drop (length w) l) × (length x.now + length w ≡ length l)) →
    option_copied r ≡ expect w l
unfolding pick
literal_is None w l e = rw (expect_is w l, e)
literal_is (Some x) w l e = rw (expect_is w l, e.0, e.1)

word_is : (word w : List ℕ) → pointwise nat_eq w word ≡ is_word word w
unfolding expect ended pick
word_is [] [] = refl
word_is [] (x ∷ w) = refl
word_is (c ∷ cs) [] = refl
word_is (c ∷ cs) (x ∷ w) = go (nat_eq x c) (word_is cs w)
  where
    go : (t : Bool) → pointwise nat_eq w cs ≡ is_word cs w → t && pointwise nat_eq w cs ≡ ended (pick t (expect cs w) None)
    go true e = e
    go false e = refl

op_is : (w : List ℕ) → op_of w ≡ pick (pointwise nat_eq w (bytes "find")) 1 (pick (pointwise nat_eq w (bytes "insert")) 2 (pick (pointwise nat_eq w (bytes "delete")) 3 0))
unfolding op_of
op_is w = rw (word_is (bytes "find") w, word_is (bytes "insert") w, word_is (bytes "delete") w)

-- the operation of a word, by the words that it is compared with
module _ (w a : List ℕ) (find : a ≡ bytes "find") where
  pub op_find : true ≡ pointwise nat_eq w a → 1 ≡ op_of w
  unfolding pick
  op_find e = rw (op_is w, ← find, ← e)

  module _ (b : List ℕ) (insert : b ≡ bytes "insert") (p : false ≡ pointwise nat_eq w a) where
    pub op_insert : true ≡ pointwise nat_eq w b → 2 ≡ op_of w
    unfolding pick
    op_insert e = rw (op_is w, ← find, ← insert, ← p, ← e)

    module _ (c : List ℕ) (delete : c ≡ bytes "delete") (q : false ≡ pointwise nat_eq w b) where
      pub op_delete : true ≡ pointwise nat_eq w c → 3 ≡ op_of w
      unfolding pick
      op_delete e = rw (op_is w, ← find, ← insert, ← delete, ← p, ← q, ← e)

      pub op_unknown : false ≡ pointwise nat_eq w c → 0 ≡ op_of w
      unfolding pick
      op_unknown e = rw (op_is w, ← find, ← insert, ← delete, ← p, ← q, ← e)

pub ruleset words = (op_find, op_insert, op_delete, op_unknown)

module _ (ds : List ℕ) (v i : ℕ) (inv : value_of ds ≡ value_from v (drop i ds)) where
  pub value_again : (d w : ℕ) → i < length ds → d ≡ get_or ds i 0 - 48 → w ≡ v * 10 + d → value_of ds ≡ value_from w (drop (i + 1) ds)
  unfolding value_from
  value_again d w p q r = inv ∙ rw (from_here ds i p, let z : w ≡ 10 * v + (get_or ds i 0 - 48) = omega arith in z)

  pub value_big : (d : ℕ) → i < length ds → d ≡ get_or ds i 0 - 48 → most < v * 10 + d → None ≡ value_in ds
  unfolding pick
  value_big d p q r = rw (lt-leb (value_of ds) most (omega (arith, value_again d (v * 10 + d) p q refl, value_grows (v * 10 + d) (drop (i + 1) ds))))

  pub value_done : length ds ≤ i → v ≤ most → Some v ≡ value_in ds
  unfolding pick value_from
  value_done p q =
      let e : v ≡ value_of ds = sym (inv ∙ rw (drop_of_length-le ds p)) in
      cc (e, le-leb v most q)

-- a digit, and a byte that ends a word, as the library and the code test them
pub digit_is : (b : ℕ) → not (not (is_ascii_digit b)) ≡ is_digit b
unfolding both
digit_is b = search rules

pub word_ends : (b : ℕ) → not (eqb b 32 || eqb b 10) ≡ in_word b
unfolding pick
word_ends b = go (eqb b 32) (eqb b 10)
  where
    go : (s t : Bool) → not (s || t) ≡ pick s false (pick t false true)
    go true t = refl
    go false true = refl
    go false false = refl

-- what a value says of its digits
module _ (ds : List ℕ) where
  pub value_is_big : None ≡ value_in ds → leb (value_of ds) most ≡ false
  unfolding pick
  value_is_big = go (leb (value_of ds) most)
    where
      go : (t : Bool) → None ≡ pick t (Some (value_of ds)) None → t ≡ false
      go true e = cc
      go false e = refl

  pub value_is_fit : (n : ℕ) → Some n ≡ value_in ds → (leb (value_of ds) most ≡ true) × (n ≡ value_of ds)
  unfolding pick
  value_is_fit n = go (leb (value_of ds) most)
    where
      go : (t : Bool) → Some n ≡ pick t (Some (value_of ds)) None → (t ≡ true) × (n ≡ value_of ds)
      go true e = (refl, cc)
      go false e = (cc, cc)

some_of : (n : ℕ) → false ≡ eqb n 0 → 0 < n
some_of zero e = cc
some_of (suc n) e = omega arith

-- what a number and an operation give
module _ (l ds rest : List ℕ) where
  module _ (p : ds ≡ front is_digit l) (q : rest ≡ behind is_digit l) where
    pub number_none : true ≡ eqb (length ds) 0 → None ≡ number_in l
    unfolding number_in pick both
    number_none e = rw (let z : length (front is_digit l) ≡ 0 = eqb-true _ _ (rw p at (sym e)) in z)

    module _ (e : false ≡ eqb (length ds) 0) where
      some : 0 < length (front is_digit l)
      some = some_of _ (rw p at e)

      pub number_big : None ≡ value_in ds → None ≡ number_in l
      unfolding number_in pick both
      number_big f = rw (lt-ltb 0 _ some, value_is_big (front is_digit l) (rw p at f))

      pub number_fits : (n : ℕ) → Some n ≡ value_in ds → Some (record { value = n; rest = rest }) ≡ number_in l
      unfolding number_in pick both
      number_fits n f = let z = value_is_fit (front is_digit l) n (rw p at f) in rw (lt-ltb 0 _ some, z.0, z.1, q)

  module _ (p : ds ≡ front in_word l) (q : rest ≡ behind in_word l) where
    pub op_none : true ≡ eqb (length ds) 0 → None ≡ op_in l
    unfolding op_in pick
    op_none e = rw (let z : length (front in_word l) ≡ 0 = eqb-true _ _ (rw p at (sym e)) in z)

    pub op_some : (n : ℕ) → false ≡ eqb (length ds) 0 → n ≡ op_of ds → Some (record { value = n; rest = rest }) ≡ op_in l
    unfolding op_in pick
    op_some n e f = rw (lt-ltb 0 _ (some_of _ (rw p at e)), f, p, q)

-- a line that was read to its end
pub at_end_is : (l : List ℕ) (x : Line) → then_some (length l == 0) x ≡ at_end l x
unfolding pick ended
at_end_is [] x = refl
at_end_is (y ∷ l) x = rw (ne_eqb (length (y ∷ l)) 0 (omega arith))

-- the first of five that is in its form, whichever two are compared first
first_behind : (a b c d e : Option Line) → first_of (first_of (first_of (first_of a b) c) d) e ≡ first_of a (first_of b (first_of c (first_of d e)))
first_behind (Some x) b c d e = refl
first_behind None (Some x) c d e = refl
first_behind None None (Some x) d e = refl
first_behind None None None d e = refl

-- a line that is too long, and one that is not
module _ (l : List ℕ) where
  pub line_long : longest < length l → None ≡ line_of l
  unfolding line_of pick
  line_long p = rw (lt-ltb longest (length l) p)

  line_forms : length l ≤ longest →
      first_of (making_with_k l) (first_of (making_from 0 l) (first_of (start_of l) (first_of (steps_of l) (list_of l)))) ≡ line_of l
  unfolding line_of pick
  line_forms p = rw (le-ltb longest (length l) p)

  pub line_by : (a b c d e : Option Line) → length l ≤ longest → a ≡ making_with_k l → b ≡ first_of a (making_from 0 l) → c ≡ first_of b (start_of l) → d ≡ first_of c (steps_of l) →
      e ≡ first_of d (list_of l) → e ≡ line_of l
  line_by a b c d e p ea eb ec ed ee = ee ∙ rw (ed, ec, eb, ea) (first_behind (making_with_k l) (making_from 0 l) (start_of l) (steps_of l) (list_of l) ∙ line_forms p)

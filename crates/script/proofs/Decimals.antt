-- A number in decimal: digits that read as the number, and no more of them than the number needs.
use Prim.Native.Nat.{ℕ, zero, suc, ◌+◌, ◌-◌, ◌*◌, ◌/◌, ◌%◌, ◌^◌, ◌≤◌, ◌<◌}
use mathlib.Core.Path.{◌≡◌, refl, ◌∙◌}
use mathlib.Core.Bool.{Bool, true, false}
use mathlib.Core.List.{List, [], ◌∷◌, ◌++◌}
use native.Mathlib.Omega.{arith}
use lib.Dec.{ltb}
use lib.ListN.{length, length-append}
use borrow.Author.Tests.{le-leb, ltb-true, ltb-false}
use Rattle.tables.specs.Choice.{both}
use Rattle.print.specs.Text.{is_digit, decimal, value_from}
use Rattle.script.specs.Reading.{most}
use Rattle.script.specs.Form.{All, none, also, Digits, Numeral}
use Rattle.print.proofs.Buffers.{decimal_one, decimal_more}

digit_good : (d : ℕ) → d < 10 → is_digit (48 + d) ≡ true
unfolding both
digit_good d p = rw (le-leb 48 (48 + d) (omega arith), le-leb (48 + d) 57 (omega arith))

all_more : (test : ℕ → Bool) (xs : List ℕ) (y : ℕ) → All test xs → test y ≡ true → All test (xs ++ (y ∷ []))
all_more test [] y none e = also e none
all_more test (x ∷ xs) y (also p a) e = also p (all_more test xs y a e)

value_more : (v : ℕ) (xs : List ℕ) (d : ℕ) → value_from v (xs ++ (d ∷ [])) ≡ 10 * value_from v xs + (d - 48)
unfolding value_from
value_more v [] d = refl
value_more v (x ∷ xs) d = value_more (10 * v + (x - 48)) xs d

one_digit : (n : ℕ) → n < 10 → Digits n ((48 + n) ∷ [])
unfolding value_from
one_digit n p = record { some = omega arith; all = also (digit_good n p) none; value = omega arith }

more_digits : (n : ℕ) (ds : List ℕ) → Digits (n / 10) ds → Digits n (ds ++ ((48 + n % 10) ∷ []))
more_digits n ds d =
    record {
      some = rw (length-append ds ((48 + n % 10) ∷ [])) (omega arith);
      all = all_more is_digit ds (48 + n % 10) d.all (digit_good (n % 10) (omega arith));
      value = value_more 0 ds (48 + n % 10) ∙ rw d.value (omega arith);
    }

digits_good : (f n : ℕ) → n ≤ f → Digits n (decimal n)
digits_good zero n p = rw (decimal_one n (omega arith)) (one_digit n (omega arith))
digits_good (suc f) n p = go (ltb n 10) refl (λ (h : 10 ≤ n). digits_good f (n / 10) (omega arith))
  where
    go : (t : Bool) → ltb n 10 ≡ t → (10 ≤ n → Digits (n / 10) (decimal (n / 10))) → Digits n (decimal n)
    go true e r = let h : n < 10 = ltb-true n 10 e in rw (decimal_one n h) (one_digit n h)
    go false e r = let h : 10 ≤ n = ltb-false n 10 e in rw (decimal_more n h) (more_digits n (decimal (n / 10)) (r h))

pub decimal_numeral : (n : ℕ) → n ≤ most → Numeral n (decimal n)
decimal_numeral n p = record { digits = digits_good n n (omega arith); fits = p }

-- a number below a power of ten has at most so many digits
decimal_short : (k n : ℕ) → n < 10 ^ suc k → length (decimal n) ≤ suc k
decimal_short zero n p = rw (decimal_one n p) (omega arith)
decimal_short (suc k) n p = go (ltb n 10) refl (λ (h : 10 ≤ n). decimal_short k (n / 10) (omega arith))
  where
    go : (t : Bool) → ltb n 10 ≡ t → (10 ≤ n → length (decimal (n / 10)) ≤ suc k) → length (decimal n) ≤ suc (suc k)
    go true e r = rw (decimal_one n (ltb-true n 10 e)) (omega arith)
    go false e r =
        let h : 10 ≤ n = ltb-false n 10 e in
        let q = r h in
        rw (decimal_more n h, length-append (decimal (n / 10)) ((48 + n % 10) ∷ [])) (omega arith)

-- "of 32 bits": at most ten digits
pub decimal_ten : (n : ℕ) → n ≤ most → length (decimal n) ≤ 10
decimal_ten n p = decimal_short 9 n (omega arith)

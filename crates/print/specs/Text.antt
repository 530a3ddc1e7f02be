-- Lines as lists of bytes: texts, digits and words, the value of digits, and a number's digits.
use Rattle.std.specs.Prelude.{ℕ, zero, suc, ◌+◌, ◌-◌, ◌*◌, ◌/◌, ◌%◌, Bool, true, false, List, [], ◌∷◌, ◌++◌, eqb}
use Prim.Native.String.{String}
use Prim.Native.String as S
use Prim.Native.Char.{code}
use Rattle.tables.specs.Choice.{pick, within}

-- the bytes of a text, whose characters are all ASCII
abbrev pub bytes : String → List ℕ
bytes S.[] = []
bytes (S.◌∷◌ c s) = code c ∷ bytes s

abbrev pub newline : ℕ
newline = 10

abbrev pub space : ℕ
space = 32

-- '0' to '9'
abbrev pub is_digit : ℕ → Bool
is_digit b = within 48 b 57

-- neither space nor newline
abbrev pub in_word : ℕ → Bool
in_word b = pick (eqb b space) false (pick (eqb b newline) false true)

-- the longest front of a list whose bytes all pass a test, and what lies behind it
unfoldable pub front : (ℕ → Bool) → List ℕ → List ℕ
front test [] = []
front test (x ∷ xs) = pick (test x) (x ∷ front test xs) []

unfoldable pub behind : (ℕ → Bool) → List ℕ → List ℕ
behind test [] = []
behind test (x ∷ xs) = pick (test x) (behind test xs) (x ∷ xs)

-- the value of digits, from the left, where v is that of the digits before them
unfoldable pub value_from : ℕ → List ℕ → ℕ
value_from v [] = v
value_from v (d ∷ ds) = value_from (10 * v + (d - 48)) ds

abbrev pub value_of : List ℕ → ℕ
value_of ds = value_from 0 ds

-- the digits of a number, none for 0: their count is limited by the number itself
unfoldable pub digits_of : ℕ → ℕ → List ℕ
digits_of zero n = []
digits_of (suc limit) zero = []
digits_of (suc limit) (suc n) = digits_of limit (suc n / 10) ++ ((48 + suc n % 10) ∷ [])

-- a number in decimal, with no leading zero; 0 is "0"
unfoldable pub decimal : ℕ → List ℕ
decimal n = pick (eqb n 0) (bytes "0") (digits_of n n)

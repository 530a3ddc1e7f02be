-- The forms of a line once more, as a grammar: what stands in it from its first byte to its last. Proofs show that reading takes these and no others.
use Rattle.std.specs.Prelude.{ℕ, ◌≤◌, ◌<◌, ◌≡◌, Bool, true, List, [], ◌∷◌, ◌++◌, length}
use Rattle.print.specs.Text.{bytes, is_digit, in_word, value_of}
use Rattle.script.specs.Reading.{most, op_of}
use Rattle.script.specs.declared.lines.Line.{Line}

-- every byte passes a test
pub data All (test : ℕ → Bool) : List ℕ → Type 0 where
  none : All test []
  also : {x : ℕ} {xs : List ℕ} → test x ≡ true → All test xs → All test (x ∷ xs)

-- one or more digits, leading zeros among them, whose value is n
pub record Digits (n : ℕ) (ds : List ℕ) : Type 0 where
  pub some : 0 < length ds
  pub all : All is_digit ds
  pub value : value_of ds ≡ n

-- and n fits 32 bits
pub record Numeral (n : ℕ) (ds : List ℕ) : Type 0 where
  pub digits : Digits n ds
  pub fits : n ≤ most

-- one or more bytes that are neither space nor newline
pub record Word (w : List ℕ) : Type 0 where
  pub some : 0 < length w
  pub inside : All in_word w

-- the line l has the form of what it asks for
pub data InForm (l : List ℕ) : Line → Type 0 where
  making : (k p n r : ℕ) (a b c d : List ℕ) → Numeral k a → Numeral p b → Numeral n c → Numeral r d →
      l ≡ bytes "k=" ++ a ++ bytes " processes=" ++ b ++ bytes " nodes=" ++ c ++ bytes " records=" ++ d → InForm l (Line.Making (record { k = k; processes = p; nodes = n; records = r }))
  making_without_k : (p n r : ℕ) (b c d : List ℕ) → Numeral p b → Numeral n c → Numeral r d →
      l ≡ bytes "processes=" ++ b ++ bytes " nodes=" ++ c ++ bytes " records=" ++ d → InForm l (Line.Making (record { k = 0; processes = p; nodes = n; records = r }))
  start : (p x : ℕ) (a w b : List ℕ) → Numeral p a → Word w → Numeral x b →
      l ≡ bytes "start=" ++ a ++ bytes " op=" ++ w ++ bytes " key=" ++ b → InForm l (Line.Start (record { process = p; op = op_of w; key = x }))
  steps : (p t : ℕ) (a b : List ℕ) → Numeral p a → Numeral t b →
      l ≡ bytes "step=" ++ a ++ bytes " times=" ++ b → InForm l (Line.Steps (record { process = p; times = t }))
  list : l ≡ bytes "list=all" → InForm l Line.List

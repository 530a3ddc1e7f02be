-- What a line of the script asks for: "one key=value line per call, fields in this order".
use Rattle.std.specs.Prelude.{ℕ, Bool, true, false, List, [], ◌∷◌, leb, ltb, eqb, length, Option, Some, None, option_and_then}
use Rattle.std.specs.Option.{option_or}
use Rattle.tables.specs.Choice.{pick, both}
use Rattle.print.specs.Text.{bytes, is_digit, in_word, front, behind, value_of}
use Rattle.script.specs.declared.lines.Line.{Line}

-- A part of a line gives what is left of the line behind it, and none where it does not stand there: the line is then not in its form.
-- a literal, byte for byte
unfoldable pub expect : List ℕ → List ℕ → Option (List ℕ)
expect [] l = Some l
expect (c ∷ cs) [] = None
expect (c ∷ cs) (x ∷ xs) = pick (eqb x c) (expect cs xs) None

-- a number or an operation, and what is left behind it
pub record Found : Type 0 where
  pub value : ℕ
  pub rest : List ℕ

abbrev pub found : ℕ → List ℕ → Option Found
found v l = Some (record { value = v; rest = l })

-- "Numbers are decimal, of 32 bits": one or more digits
abbrev pub most : ℕ
most = 4294967295

unfoldable pub number_in : List ℕ → Option Found
number_in l =
    pick (both (ltb 0 (length (front is_digit l))) (leb (value_of (front is_digit l)) most))
    (found (value_of (front is_digit l)) (behind is_digit l))
    None

-- the line was read to its end
unfoldable pub ended : Option (List ℕ) → Bool
ended (Some []) = true
ended (Some (x ∷ l)) = false
ended None = false

-- "1 find, 2 insert, 3 delete"; "an unknown op is 5": 0 stands for it, which the call refuses so
abbrev pub is_word : List ℕ → List ℕ → Bool
is_word word l = ended (expect word l)

unfoldable pub op_of : List ℕ → ℕ
op_of w = pick (is_word (bytes "find") w) 1 (pick (is_word (bytes "insert") w) 2 (pick (is_word (bytes "delete") w) 3 0))

-- the operation of one or more bytes of a word
unfoldable pub op_in : List ℕ → Option Found
op_in l = pick (ltb 0 (length (front in_word l))) (found (op_of (front in_word l)) (behind in_word l)) None

-- a field: its name and its number, or its name and an operation's word
unfoldable pub field : List ℕ → List ℕ → Option Found
field name l = option_and_then number_in (expect name l)

unfoldable pub op_behind : List ℕ → List ℕ → Option Found
op_behind name l = option_and_then op_in (expect name l)

abbrev pub at_end : List ℕ → Line → Option Line
at_end l line = pick (ended (Some l)) (Some line) None

-- a part, then what is made of it; none where the part is not there
abbrev pub then : {A B : Type 0} → Option A → (A → Option B) → Option B
then o f = option_and_then f o

-- "k=2 processes=1 nodes=16 records=8"; "An absent k field is k=0"
abbrev pub making_from : ℕ → List ℕ → Option Line
making_from k l =
    then (field (bytes "processes=") l) (λ p.
    then (field (bytes " nodes=") p.rest) (λ n.
    then (field (bytes " records=") n.rest) (λ r.
    at_end r.rest (Line.Making (record { k = k; processes = p.value; nodes = n.value; records = r.value })))))

abbrev pub making_with_k : List ℕ → Option Line
making_with_k l =
    then (field (bytes "k=") l) (λ k.
    then (expect (bytes " ") k.rest) (λ rest.
    making_from k.value rest))

-- "start=1 op=insert key=3"
abbrev pub start_of : List ℕ → Option Line
start_of l =
    then (field (bytes "start=") l) (λ p.
    then (op_behind (bytes " op=") p.rest) (λ w.
    then (field (bytes " key=") w.rest) (λ x.
    at_end x.rest (Line.Start (record { process = p.value; op = w.value; key = x.value })))))

-- "step=1 times=8"
abbrev pub steps_of : List ℕ → Option Line
steps_of l =
    then (field (bytes "step=") l) (λ p.
    then (field (bytes " times=") p.rest) (λ t.
    at_end t.rest (Line.Steps (record { process = p.value; times = t.value }))))

-- "list=all"
abbrev pub list_of : List ℕ → Option Line
list_of l = then (expect (bytes "list=all") l) (λ rest. at_end rest Line.List)

-- the first of two that is in its form
abbrev pub first_of : Option Line → Option Line → Option Line
first_of a b = option_or a b

-- a line of more bytes is not in its form
abbrev pub longest : ℕ
longest = 4096

unfoldable pub line_of : List ℕ → Option Line
line_of l =
    pick (ltb longest (length l)) None
    (first_of (making_with_k l) (first_of (making_from 0 l) (first_of (start_of l) (first_of (steps_of l) (list_of l)))))

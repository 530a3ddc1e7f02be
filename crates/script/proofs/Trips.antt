-- There and back: reading gives back what was written, and every line that is printed fits a buffer of 128 bytes.
use Prim.Native.Nat.{ℕ, zero, suc, ◌+◌, ◌-◌, ◌≤◌, ◌<◌}
use mathlib.Core.Path.{◌≡◌, refl, sym, ap, ◌∙◌}
use mathlib.Core.Bool.{Bool, true, false}
use mathlib.Core.List.{List, [], ◌∷◌, ◌++◌, append_assoc}
use native.Mathlib.Omega.{arith}
use lib.Dec.{ltb, lit<, lit≤}
use lib.ListN.{length, take, drop, set, length-append, length-set}
use lib.Seq.{sets, sets-eq, take_at, drop_at, length-take-le}
use borrow.Author.Tests.{ltb-true}
use Rattle.std.specs.Prelude.{Option, Some}
use Rattle.tables.specs.Choice.{pick}
use Rattle.print.specs.Text.{bytes, decimal}
use Rattle.script.specs.Reading.{most, op_of, expect, ended, longest, line_of}
use Rattle.script.specs.Form.{Word, none, also, making, making_without_k, start, steps, list}
use Rattle.print.specs.Writing.{named, op_word, op_field, answer_word, answer_field, answer_line, refused_line, count_line, key_line}
use Rattle.print.specs.Writing.{plain_making_text, making_text, start_text, steps_text, list_text, Out, out, written}
use Rattle.tables.specs.declared.numbers.Making.{Making}
use Rattle.print.specs.declared.lines.StartLine.{StartLine}
use Rattle.print.specs.declared.lines.StepLine.{StepLine}
use Rattle.print.specs.declared.lines.AnswerLine.{AnswerLine}
use Rattle.print.specs.declared.lines.CountLine.{CountLine}
use Rattle.script.specs.declared.lines.Line.{Line}
use Rattle.print.proofs.Buffers.{written-sets}
use Rattle.script.proofs.Grammar.{in_form_read}
use Rattle.script.proofs.Decimals.{decimal_numeral, decimal_ten}

-- ---- lengths

named_short : (name : List ℕ) (n : ℕ) → n ≤ most → length (named name n) ≤ length name + 10
unfolding named
named_short name n p = rw (length-append name (decimal n)) (omega (arith, decimal_ten n p))

pick_short : (k : ℕ) (t : Bool) (a b : List ℕ) → length a ≤ k → length b ≤ k → length (pick t a b) ≤ k
unfolding pick
pick_short k true a b p q = p
pick_short k false a b p q = q

op_word_short : (op : ℕ) → length (op_word op) ≤ 6
op_word_short op = pick_short 6 _ _ _ (lit≤ tt) (pick_short 6 _ _ _ (lit≤ tt) (pick_short 6 _ _ _ (lit≤ tt) (lit≤ tt)))

op_short : (op : ℕ) → length (op_field op) ≤ 10
unfolding op_field
op_short op = rw (length-append (bytes " op=") (op_word op)) (omega (arith, op_word_short op))

answer_word_short : (a : ℕ) → length (answer_word a) ≤ 4
answer_word_short a = pick_short 4 _ _ _ (lit≤ tt) (pick_short 4 _ _ _ (lit≤ tt) (pick_short 4 _ _ _ (lit≤ tt) (lit≤ tt)))

answer_field_short : (a : ℕ) → length (answer_field a) ≤ 12
unfolding answer_field
answer_field_short a = rw (length-append (bytes " answer=") (answer_word a)) (omega (arith, answer_word_short a))

-- each printed line has at most 128 bytes where its numbers are of 32 bits
pub answer_short : (a : AnswerLine) → a.process ≤ most → a.key ≤ most → a.steps ≤ most → length (answer_line a) ≤ 128
answer_short a p k s =
    simp length-append
    (omega (arith, named_short (bytes "process=") a.process p, op_short a.op, named_short (bytes " key=") a.key k, answer_field_short a.answer, named_short (bytes " steps=") a.steps s))

pub refused_short : (n : ℕ) → n ≤ most → length (refused_line n) ≤ 128
refused_short n p = simp length-append (omega (arith, named_short (bytes "refused=") n p))

pub count_short : (c : CountLine) → c.count ≤ most → c.nodes ≤ most → c.records ≤ most → length (count_line c) ≤ 128
count_short c p q r =
    simp length-append (omega (arith, named_short (bytes "count=") c.count p, named_short (bytes " nodes=") c.nodes q, named_short (bytes " records=") c.records r))

pub key_short : (k : ℕ) → k ≤ most → length (key_line k) ≤ 128
key_short k p = simp length-append (omega (arith, named_short (bytes "key=") k p))

pub plain_making_short : (m : Making) → m.processes ≤ most → m.nodes ≤ most → m.records ≤ most → length (plain_making_text m) ≤ 100
plain_making_short m p q r =
    simp length-append (omega (arith, named_short (bytes "processes=") m.processes p, named_short (bytes " nodes=") m.nodes q, named_short (bytes " records=") m.records r))

pub making_short : (m : Making) → m.k ≤ most → m.processes ≤ most → m.nodes ≤ most → m.records ≤ most → length (making_text m) ≤ 128
making_short m k p q r =
    rw (length-append (named (bytes "k=") m.k ++ bytes " ") (plain_making_text m), length-append (named (bytes "k=") m.k) (bytes " "))
    (omega (arith, named_short (bytes "k=") m.k k, plain_making_short m p q r))

pub start_short : (s : StartLine) → s.process ≤ most → s.key ≤ most → length (start_text s) ≤ 128
start_short s p k = simp length-append (omega (arith, named_short (bytes "start=") s.process p, op_short s.op, named_short (bytes " key=") s.key k))

pub steps_short : (s : StepLine) → s.process ≤ most → s.times ≤ most → length (steps_text s) ≤ 128
steps_short s p t = simp length-append (omega (arith, named_short (bytes "step=") s.process p, named_short (bytes " times=") s.times t))

-- ---- what is written and has room stands in the buffer, and nothing else has changed

module _ (b e t : List ℕ) (at r : ℕ) (w : out r e ≡ written b at t) (room : at + length t ≤ length b) where
  abbrev placed : out r e ≡ out (at + length t) (sets b at t)
  placed = w ∙ written-sets b at t room

  pub written_place : r ≡ at + length t
  written_place = ap (λ (o : Out). o.at) placed

  pub written_whole : e ≡ take at b ++ t ++ drop (at + length t) b
  written_whole = ap (λ (o : Out). o.buffer) placed ∙ sets-eq t b at room

  pub written_there : take (r - at) (drop at e) ≡ t
  written_there = rw (written_whole, written_place, append_assoc (take at b) t (drop (at + length t) b), drop_at (take at b) (t ++ drop (at + length t) b) at (length-take-le at b (omega arith)))
      (take_at t (drop (at + length t) b) (at + length t - at) (omega arith))

-- the place behind what was written lies within the buffer, whatever its room
pub place_within : (b : List ℕ) (at : ℕ) (t : List ℕ) → at ≤ length b → (written b at t).at ≤ length b
unfolding written pick
place_within b at [] p = p
place_within b at (x ∷ t) p =
    go (ltb at (length b)) refl (λ (q : at < length b). rw (length-set b at x) at (place_within (set b at x) (at + 1) t (rw (length-set b at x) (omega arith))))
  where
    go : (u : Bool) → ltb at (length b) ≡ u → (at < length b → (written (set b at x) (at + 1) t).at ≤ length b) → (pick u (written (set b at x) (at + 1) t) (out at b)).at ≤ length b
    go true e r = r (ltb-true at (length b) e)
    go false e r = p

-- ---- reading what was written

making_flat : (a b c d : List ℕ) →
    bytes "k=" ++ a ++ bytes " " ++ (bytes "processes=" ++ b ++ (bytes " nodes=" ++ c) ++ (bytes " records=" ++ d)) ≡ bytes "k=" ++ a ++ bytes " processes=" ++ b ++ bytes " nodes=" ++ c ++ bytes " records=" ++ d
making_flat a b c d = append_assoc (bytes "k=" ++ a) (bytes " ") _ ∙ behind
  where
    behind : bytes "k=" ++ a ++ (bytes " processes=" ++ b ++ (bytes " nodes=" ++ c) ++ (bytes " records=" ++ d)) ≡ bytes "k=" ++ a ++ bytes " processes=" ++ b ++ bytes " nodes=" ++ c ++ bytes " records=" ++ d
    behind = simp append_assoc

plain_flat : (b c d : List ℕ) → bytes "processes=" ++ b ++ (bytes " nodes=" ++ c) ++ (bytes " records=" ++ d) ≡ bytes "processes=" ++ b ++ bytes " nodes=" ++ c ++ bytes " records=" ++ d
plain_flat b c d = simp append_assoc

start_flat : (a w b : List ℕ) → bytes "start=" ++ a ++ (bytes " op=" ++ w) ++ (bytes " key=" ++ b) ≡ bytes "start=" ++ a ++ bytes " op=" ++ w ++ bytes " key=" ++ b
start_flat a w b = simp append_assoc

steps_flat : (a b : List ℕ) → bytes "step=" ++ a ++ (bytes " times=" ++ b) ≡ bytes "step=" ++ a ++ bytes " times=" ++ b
steps_flat a b = simp append_assoc

not_long : (l : List ℕ) → length l ≤ 128 → length l ≤ longest
not_long l p = omega arith

pub making_back : (m : Making) → m.k ≤ most → m.processes ≤ most → m.nodes ≤ most → m.records ≤ most → line_of (making_text m) ≡ Some (Line.Making m)
unfolding named
making_back m k p n r =
    in_form_read (making_text m) (Line.Making m) (not_long (making_text m) (making_short m k p n r))
    (making m.k m.processes m.nodes m.records (decimal m.k) (decimal m.processes) (decimal m.nodes) (decimal m.records) (decimal_numeral m.k k)
    (decimal_numeral m.processes p) (decimal_numeral m.nodes n) (decimal_numeral m.records r) (making_flat (decimal m.k) (decimal m.processes) (decimal m.nodes) (decimal m.records)))

-- "An absent k field is k=0"
pub plain_making_back : (m : Making) → m.k ≡ 0 → m.processes ≤ most → m.nodes ≤ most → m.records ≤ most → line_of (plain_making_text m) ≡ Some (Line.Making m)
unfolding named
plain_making_back m e p n r =
    in_form_read (plain_making_text m) (Line.Making (record { k = 0; processes = m.processes; nodes = m.nodes; records = m.records }))
    (let z : length (plain_making_text m) ≤ longest = omega (arith, plain_making_short m p n r) in z)
    (making_without_k m.processes m.nodes m.records (decimal m.processes) (decimal m.nodes) (decimal m.records) (decimal_numeral m.processes p)
    (decimal_numeral m.nodes n) (decimal_numeral m.records r) (plain_flat (decimal m.processes) (decimal m.nodes) (decimal m.records)))
    ∙ ap (λ (i : ℕ). Some (Line.Making (record { k = i; processes = m.processes; nodes = m.nodes; records = m.records }))) (sym e)

-- the three words are words, and stand for their operations
find_word : Word (bytes "find")
unfolding pick
find_word = record { some = lit< tt; inside = also refl (also refl (also refl (also refl none))) }

insert_word : Word (bytes "insert")
unfolding pick
insert_word = record { some = lit< tt; inside = also refl (also refl (also refl (also refl (also refl (also refl none))))) }

delete_word : Word (bytes "delete")
unfolding pick
delete_word = record { some = lit< tt; inside = also refl (also refl (also refl (also refl (also refl (also refl none))))) }

op_word_good : (op : ℕ) → 1 ≤ op → op ≤ 3 → Word (op_word op) × (op_of (op_word op) ≡ op)
unfolding pick op_of expect ended
op_word_good zero p q = absurd (omega arith)
op_word_good (suc zero) p q = (find_word, refl)
op_word_good (suc (suc zero)) p q = (insert_word, refl)
op_word_good (suc (suc (suc zero))) p q = (delete_word, refl)
op_word_good (suc (suc (suc (suc n)))) p q = absurd (omega arith)

pub start_back : (s : StartLine) → s.process ≤ most → 1 ≤ s.op → s.op ≤ 3 → s.key ≤ most → line_of (start_text s) ≡ Some (Line.Start s)
unfolding named op_field
start_back s p o o' k =
    let w = op_word_good s.op o o' in
    in_form_read (start_text s) (Line.Start (record { process = s.process; op = op_of (op_word s.op); key = s.key })) (not_long (start_text s) (start_short s p k))
    (start s.process s.key (decimal s.process) (op_word s.op) (decimal s.key) (decimal_numeral s.process p) w.0 (decimal_numeral s.key k)
    (start_flat (decimal s.process) (op_word s.op) (decimal s.key)))
    ∙ ap (λ (i : ℕ). Some (Line.Start (record { process = s.process; op = i; key = s.key }))) w.1

pub steps_back : (s : StepLine) → s.process ≤ most → s.times ≤ most → line_of (steps_text s) ≡ Some (Line.Steps s)
unfolding named
steps_back s p t =
    in_form_read (steps_text s) (Line.Steps s) (not_long (steps_text s) (steps_short s p t))
    (steps s.process s.times (decimal s.process) (decimal s.times) (decimal_numeral s.process p) (decimal_numeral s.times t)
    (steps_flat (decimal s.process) (decimal s.times)))

pub list_back : line_of list_text ≡ Some Line.List
list_back = in_form_read list_text Line.List (lit≤ tt) (list refl)

-- so a line that was written where there was room for it is read from the buffer as what it asks for
pub written_back : (b e t : List ℕ) (at r : ℕ) (x : Option Line) → out r e ≡ written b at t → at + length t ≤ length b → line_of t ≡ x → line_of (take (r - at) (drop at e)) ≡ x
written_back b e t at r x w room q = rw (written_there b e t at r w room) q

-- What is written: the lines that the bench prints and those of its script, as bytes, and a buffer into which bytes were written.
use Rattle.std.specs.Prelude.{ℕ, ◌≡◌, ◌+◌, List, [], ◌∷◌, ◌++◌, ltb, eqb, length, set}
use Rattle.tables.specs.Choice.{pick}
use Rattle.print.specs.Text.{bytes, newline, decimal}
use Rattle.tables.specs.declared.numbers.Making.{Making}
use Rattle.print.specs.declared.lines.StartLine.{StartLine}
use Rattle.print.specs.declared.lines.StepLine.{StepLine}
use Rattle.print.specs.declared.lines.AnswerLine.{AnswerLine}
use Rattle.print.specs.declared.lines.CountLine.{CountLine}
use Rattle.print.specs.declared.write.Writer.{Writer}

-- a field: its name and its number
unfoldable pub named : List ℕ → ℕ → List ℕ
named name n = name ++ decimal n

-- "1 find, 2 insert, 3 delete"; any other number has no word
abbrev pub op_word : ℕ → List ℕ
op_word op = pick (eqb op 1) (bytes "find") (pick (eqb op 2) (bytes "insert") (pick (eqb op 3) (bytes "delete") []))

-- "0 no, 1 yes, 2 full"; any other number has no word
abbrev pub answer_word : ℕ → List ℕ
answer_word a = pick (eqb a 0) (bytes "no") (pick (eqb a 1) (bytes "yes") (pick (eqb a 2) (bytes "full") []))

-- the fields that hold them
unfoldable pub op_field : ℕ → List ℕ
op_field op = bytes " op=" ++ op_word op

unfoldable pub answer_field : ℕ → List ℕ
answer_field a = bytes " answer=" ++ answer_word a

-- "process=1 op=insert key=3 answer=yes steps=8"
abbrev pub answer_line : AnswerLine → List ℕ
answer_line a =
    named (bytes "process=") a.process
    ++ op_field a.op
    ++ named (bytes " key=") a.key
    ++ answer_field a.answer
    ++ named (bytes " steps=") a.steps
    ++ (newline ∷ [])

-- "A refusal prints `refused=N`"
abbrev pub refused_line : ℕ → List ℕ
refused_line n = named (bytes "refused=") n ++ (newline ∷ [])

-- "count=1 nodes=9 records=3"
abbrev pub count_line : CountLine → List ℕ
count_line c = named (bytes "count=") c.count ++ named (bytes " nodes=") c.nodes ++ named (bytes " records=") c.records ++ (newline ∷ [])

-- "key=5"
abbrev pub key_line : ℕ → List ℕ
key_line k = named (bytes "key=") k ++ (newline ∷ [])

-- the lines of the script, without their newlines: the making line without its k field, and with it
abbrev pub plain_making_text : Making → List ℕ
plain_making_text m = named (bytes "processes=") m.processes ++ named (bytes " nodes=") m.nodes ++ named (bytes " records=") m.records

abbrev pub making_text : Making → List ℕ
making_text m = named (bytes "k=") m.k ++ bytes " " ++ plain_making_text m

abbrev pub start_text : StartLine → List ℕ
start_text s = named (bytes "start=") s.process ++ op_field s.op ++ named (bytes " key=") s.key

abbrev pub steps_text : StepLine → List ℕ
steps_text s = named (bytes "step=") s.process ++ named (bytes " times=") s.times

abbrev pub list_text : List ℕ
list_text = bytes "list=all"

-- a buffer, and the place behind what was written
pub record Out : Type 0 where
  pub at : ℕ
  pub buffer : List ℕ

abbrev pub out : ℕ → List ℕ → Out
out at b = record { at = at; buffer = b }

-- bytes written one after another from a place on, as far as the buffer reaches
unfoldable pub written : List ℕ → ℕ → List ℕ → Out
written b at [] = out at b
written b at (x ∷ xs) = pick (ltb at (length b)) (written (set b at x) (at + 1) xs) (out at b)

-- a writer, with bytes written into the buffer that it holds
pub record Puts (w v : Writer) (text : List ℕ) : Type 0 where
  pub same : v.buffer.ghost_name ≡ w.buffer.ghost_name
  pub puts : out v.at v.buffer.now ≡ written w.buffer.now w.at text

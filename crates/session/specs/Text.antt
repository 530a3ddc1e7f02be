-- What is printed of a line, as bytes.
use Rattle.std.specs.Prelude.{ℕ, List, [], ◌∷◌, ◌++◌, take}
use Rattle.tables.specs.Refusal.{number_of}
use Rattle.print.specs.Writing.{answer_line, refused_line, count_line, key_line}
use Rattle.session.specs.declared.line.Said.{Said}
use Rattle.session.specs.declared.line.Said.TheVariants.{Nothing, Answered, Refused, Listed}

unfoldable pub key_lines : List ℕ → List ℕ
key_lines [] = []
key_lines (x ∷ xs) = key_line x ++ key_lines xs

-- "An accepted start, and steps that reach no answer, print nothing. A refusal prints `refused=N`"; a listing's keys are the first of the list
abbrev pub said_text : Said → List ℕ → List ℕ
said_text Nothing list = []
said_text (Answered a) list = answer_line a
said_text (Refused e) list = refused_line (number_of e)
said_text (Listed c) list = count_line c ++ key_lines (take c.count list)

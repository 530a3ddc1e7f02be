-- What listing and range answer, by document 01's numbers.
use Rattle.std.specs.Prelude.{ℕ, Bool, true, false, [], ◌∷◌, get_or, Result, Ok, Err}
use Rattle.tables.specs.Refusal.{number_of}
use Rattle.tables.specs.declared.numbers.Refusal.{Refusal}

-- an answer with its number, or a refusal with its number
pub data Said : Type 0 where
  answered : ℕ → Said
  refused_by : ℕ → Said

-- "answers the count of keys, or its refusal"
abbrev pub listed_says : Result ℕ Refusal → Said
listed_says (Ok n) = answered n
listed_says (Err e) = refused_by (number_of e)

-- "Answers: 0 no, 1 yes"
abbrev pub cleared_says : Result Bool Refusal → Said
cleared_says (Ok false) = answered 0
cleared_says (Ok true) = answered 1
cleared_says (Err e) = refused_by (number_of e)

-- the answer of a number
abbrev pub cleared : ℕ → Result Bool Refusal
cleared n = Ok (get_or (false ∷ true ∷ []) n false)

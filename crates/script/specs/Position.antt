-- What the code's parts of a line, which are lent, stand for.
use Rattle.std.specs.Prelude.{ℕ, Option, Some, None, List, leb, option_map}
use Rattle.std.specs.Borrow.{Bor}
use Rattle.tables.specs.Choice.{pick}
use Rattle.print.specs.Text.{value_of}
use Rattle.script.specs.Reading.{Found, most}

-- what was read, and what is left behind it
abbrev pub found_in : Option (ℕ × Bor (List ℕ)) → Option Found
found_in f = option_map (λ p. record { value = p.0; rest = p.1.now }) f

-- a value of 32 bits, or none
abbrev pub value_in : List ℕ → Option ℕ
value_in ds = pick (leb (value_of ds) most) (Some (value_of ds)) None

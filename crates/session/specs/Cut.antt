-- How the input is cut into lines: "A line ends at a newline or at the end of the input; a newline that ends the input starts no line."
use Rattle.std.specs.Prelude.{ℕ, Bool, not, eqb}
use Rattle.print.specs.Text.{newline}

-- a byte that does not end a line
abbrev pub in_line : ℕ → Bool
in_line b = not (eqb b newline)

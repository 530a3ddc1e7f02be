-- Where a line ends in a piece of the input.
use Prim.Native.Nat.{ℕ, ◌+◌, ◌≤◌, ◌<◌}
use mathlib.Core.Path.{◌≡◌}
use mathlib.Core.List.{List}
use native.Mathlib.Omega.{arith}
use lib.ListN.{length, drop, length-drop, drop_of_length-le}
use lib.Seq.{take_all}
use Rattle.std.proofs.Common.{slice_range, ◌-◌}
use Rattle.print.specs.Text.{front}
use Rattle.session.specs.Cut.{in_line}

-- behind the piece's end nothing is left
pub end_past : (piece : List ℕ) (at : ℕ) → length piece < at → at ≡ at + length (front in_line (drop at piece))
unfolding front
end_past piece at p = rw (drop_of_length-le piece (let z : length piece ≤ at = omega arith in z)) (omega arith)

pub end_in : (piece rest : List ℕ) (at n : ℕ) → rest ≡ slice_range piece at (length piece) → n ≡ length (front in_line rest) → at + n ≡ at + length (front in_line (drop at piece))
end_in piece rest at n p q = rw (q, p, take_all (length piece - at) (drop at piece) (omega (arith, length-drop at piece)))

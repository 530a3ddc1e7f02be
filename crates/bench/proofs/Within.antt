-- A line ends within its piece.
use Rattle.std.proofs.Common.{◌≡◌, ℕ, ◌+◌, ◌<◌, ◌≤◌, List, length, drop, arith, length-drop}
use Rattle.print.specs.Text.{front}
use Rattle.script.proofs.Runs.{front_short}
use Rattle.session.specs.Cut.{in_line}

pub ends_within : (piece : List ℕ) (at e : ℕ) → e ≡ at + length (front in_line (drop at piece)) → at < length piece → e ≤ length piece
ends_within piece at e is p = omega (arith, front_short in_line (drop at piece), length-drop at piece)

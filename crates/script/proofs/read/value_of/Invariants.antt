-- Of the proof that `read::value_of` keeps its contract.
use Rattle.std.proofs.Common.{◌≡◌, ◌≤◌, drop}
use Rattle.print.specs.Text.{value_of, value_from}
use Rattle.script.proofs.read.value_of.Given as goal

abbrev pub invariant-loop-digit : goal.invariant-loop-digit
invariant-loop-digit l = (l.value ≤ 4294967295) × (value_of l.digits ≡ value_from l.value (drop l.digit-index l.digits))

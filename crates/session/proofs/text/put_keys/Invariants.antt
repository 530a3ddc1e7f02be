-- Of the proof that `text::put_keys` keeps its contract.
use Rattle.std.proofs.Common.{◌≡◌, drop}
use Rattle.print.specs.Writing.{written}
use Rattle.session.specs.Text.{key_lines}
use Rattle.session.proofs.text.put_keys.Given as goal

abbrev pub invariant-loop-key : goal.invariant-loop-key
invariant-loop-key l = written l.initial.buffer l.at (key_lines l.keys) ≡ written l.buffer l.next (key_lines (drop l.key-index l.keys))

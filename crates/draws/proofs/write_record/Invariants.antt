-- Of the proof that `write_record` keeps its contract.
use Rattle.std.proofs.Common.{◌≡◌, take}
use Rattle.std.proofs.lemmas.List.Edits.{sets}
use Rattle.tables.specs.Layout.{record_at}
use Rattle.draws.specs.Draw.{new_record}
use Rattle.draws.proofs.write_record.Given as goal

abbrev pub invariant-loop-i : goal.invariant-loop-i
invariant-loop-i l = l.block ≡ sets l.initial.block (record_at l.h (new_record l.h) 0) (take l.i l.word-items)

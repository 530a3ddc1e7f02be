-- Runs (a) to (j), one table, one statement, by computation over the definitions that the calls' contracts cite.
use mathlib.Core.Path.{◌≡◌, refl}
use mathlib.Core.List.{map}
use lib.Count.{ones}
use Rattle.tables.specs.Choice.{pick, both, listed}
use Rattle.tables.specs.Numbers.{numbers_good}
use Rattle.tables.specs.Header.{header_good}
use Rattle.nodes.specs.Keys.{first_at, rises, holds}
use Rattle.damage.specs.Fields.{process_good, numbers_good as fields_good, nodes_good, records_good, uses_good}
use Rattle.damage.specs.Helped.{helped_good, record_good}
use Rattle.draws.specs.Draw.{leaves_from, committed, replace_drawn, prune_drawn}
use Rattle.help.specs.Help.{help_ended}
use Rattle.finish.specs.Rows.{row6, row7, row8, row12, row13, row14, look_row, hang_row, unflag_row}
use Rattle.mark.specs.Rows.{row9, row10, row11}
use Rattle.flag.specs.Rows.{row4, row5}
use Rattle.points.specs.Rows.{row1, row2, row3, row_of, no_row}
use Rattle.meter.specs.Walk.{in_order, walk_of}
use Rattle.index.specs.Calls.{start_call, step_call}
use Rattle.make.specs.Make.{make_call}
use Rattle.link.specs.Events.{state_at}
use Rattle.runs.specs.Run.{told_at, measured, expected}
use Rattle.runs.specs.Table.{table}

pub runs_hold : map measured table ≡ map expected table
unfolding pick both listed numbers_good header_good first_at rises holds process_good fields_good nodes_good records_good uses_good helped_good record_good leaves_from committed replace_drawn prune_drawn help_ended row1 row2 row3 row4 row5 row6 row7 row8 row9 row10 row11 row12 row13 row14 row_of no_row look_row hang_row unflag_row in_order walk_of start_call step_call make_call state_at told_at table ones
runs_hold = refl

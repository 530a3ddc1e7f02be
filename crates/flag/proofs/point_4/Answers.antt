-- 4 with a leaf: the row, by its tests.
use Rattle.flag.proofs.Flags.{four_leaf}
use Rattle.flag.proofs.point_4.Goals as goal

pub returns : goal.returns
returns c = search four_leaf

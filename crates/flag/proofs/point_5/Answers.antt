-- 5 with a sound word: the row, by its tests.
use Rattle.std.proofs.Common.{◌∙◌, sym, arith}
use Rattle.flag.proofs.Flags.{gp_row}
use Rattle.flag.proofs.point_5.Goals as goal

pub returns-then-seen_good : goal.returns-then-seen_good
returns-then-seen_good c =
    c.flag_gp.ensures
    ∙ gp_row _ _ _ _ _ c.pending_word-word.ensures (sym c.seen_good.ensures ∙ c.if-seen_good.true) (omega (arith, c.from.ensures, c.if-from-ge4294967296.false))

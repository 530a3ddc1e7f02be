-- A start whose record is put back, and one that is refused.
use Rattle.std.proofs.Common.{sym, ◌∙◌}
use Rattle.std.proofs.lemmas.Result.{err_from_is_err_and}
use Rattle.index.proofs.Called.{start_refuses, start_accepted}
use Rattle.index.proofs.start.Goals as goal

pub returns : goal.returns
returns c =
    let a = c.args in
    start_accepted a.block.now a.row.now a.process _ _ c.saturating_sub-at.ensures c.take.ensures a.operation a.key _ _ (sym c.in_ok-started.was ∙ c.start.ensures)
    c.put.ensures

pub returns-in_err-started : goal.returns-in_err-started
returns-in_err-started c =
    let a = c.args in
    let p = err_from_is_err_and c.from_residual.result c.from_residual.ensures.1 in
    rw (p.1, p.2)
    (start_refuses a.block.now a.row.now a.process _ _ c.saturating_sub-at.ensures c.take.ensures a.operation a.key _ (sym c.in_err-started.was ∙ c.start.ensures))

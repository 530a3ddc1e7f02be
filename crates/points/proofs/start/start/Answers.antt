-- A start whose header is read, and one that is refused for it.
use Rattle.std.proofs.lemmas.Result.{err_from_is_err_and}
use Rattle.points.proofs.Steps.{start_refused_lem, start_good_lem}
use Rattle.points.proofs.start.start.Goals as goal

pub returns-in_err-h : goal.returns-in_err-h
returns-in_err-h c =
    let a = c.args in
    let p = err_from_is_err_and c.from_residual.result c.from_residual.ensures.1 in
    rw (p.1, p.2) (start_refused_lem a.block.now a.rows a.n a.q a.operation a.key _ c.read_header.ensures _ c.in_err-h.was)

pub returns : goal.returns
returns c = let a = c.args in start_good_lem a.block.now a.rows a.n a.q a.operation a.key _ c.read_header.ensures _ _ c.in_ok-h.was c.start_good.ensures

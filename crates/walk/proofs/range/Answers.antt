-- A range whose header is read, and one that is refused for it.
use Rattle.std.proofs.lemmas.Result.{err_from_is_err_and}
use Rattle.walk.proofs.Calling.{range_refused, range_read}
use Rattle.walk.proofs.range.Goals as goal

pub returns-in_err-h : goal.returns-in_err-h
returns-in_err-h c =
    let p = err_from_is_err_and c.from_residual.result c.from_residual.ensures.1 in
    rw (p.1, p.2) (range_refused c.args.block.now c.args.low c.args.high _ c.read_header.ensures _ c.in_err-h.was)

pub returns : goal.returns
returns c = range_read c.args.block.now c.args.low c.args.high _ c.read_header.ensures _ _ c.in_ok-h.was c.range_good.ensures

-- A listing whose header is read, and one that is refused for it.
use Rattle.std.proofs.lemmas.Result.{err_from_is_err_and}
use Rattle.walk.proofs.Calling.{list_refused, list_read}
use Rattle.walk.proofs.listing.Goals as goal

pub returns-in_err-h : goal.returns-in_err-h
returns-in_err-h c =
    let p = err_from_is_err_and c.from_residual.result c.from_residual.ensures.1 in
    rw (p.1, p.2) (list_refused c.args.block.now c.args.list.now _ c.read_header.ensures _ c.in_err-h.was)

pub returns : goal.returns
returns c = list_read c.args.block.now c.args.list.now _ c.read_header.ensures _ _ _ c.in_ok-h.was c.list_good.ensures

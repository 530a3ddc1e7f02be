-- The proof that `listing_part` keeps its contract.
use borrow.Author.Rules.{rules}
use Rattle.walk.proofs.Calling.{part_is, part_length}
use Rattle.walk.proofs.listing_part.Goals as goal

pub slice_bounds-result-end : goal.slice_bounds-result-end
slice_bounds-result-end c = search part_length

pub returns : goal.returns
returns c = (search part_is, search rules)

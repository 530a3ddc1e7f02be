-- The proof that `keys::route` keeps its contract.
use Rattle.std.proofs.Common.{arith}
use Rattle.nodes.proofs.Keyed.{first_of}
use Rattle.nodes.proofs.keys.route.Goals as goal

pub overflow_add-result : goal.overflow_add-result
overflow_add-result c = omega (arith, first_of _ _ _ _ _ c.greater_at.ensures)

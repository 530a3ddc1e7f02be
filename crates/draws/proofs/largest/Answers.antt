-- The proof that `largest` keeps its contract.
use Rattle.std.proofs.Common.{rules}
use Rattle.nodes.proofs.Keyed.{made_listed}
use Rattle.draws.proofs.largest.Goals as goal

pub returns : goal.returns
returns c = made_listed _ _ _ _ _ (λ i y q p k. search rules) c.from_fn.ensures.items

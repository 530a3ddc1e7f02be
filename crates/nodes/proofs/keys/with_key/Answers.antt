-- The proof that `keys::with_key` keeps its contract.
use Rattle.std.proofs.Common.{rules}
use Rattle.nodes.proofs.Keyed.{made_listed, put_word}
use Rattle.nodes.proofs.keys.with_key.Goals as goal

pub returns : goal.returns
returns c = made_listed _ _ _ _ _ (λ i y q p k. search (rules, put_word)) c.from_fn.ensures.items

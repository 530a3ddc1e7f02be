-- The proof that `fill_all` keeps its contract.
use Rattle.std.proofs.Common.{refl, rules, ◌∙◌}
use Rattle.fill.proofs.Storing.{stored_walk}
use Rattle.fill.proofs.fill_all.Goals as goal

pub returns : goal.returns
returns c = search rules ∙ stored_walk _ _ _ c.kin_of-root.ensures (search rules) (search rules) _ _ _ c.walk.ensures.met refl

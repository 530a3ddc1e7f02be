-- One outcome for every public function of `draws`: what a successful swap draws.
use Rattle.outcomes.specs.Outcome.{OneOutcome}
use Rattle.outcomes.proofs.Law.{one, codes}
use Rattle.draws.specs.Draw.{DrawOut}
use Rattle.draws.specs.contracts.room_for
use Rattle.draws.specs.contracts.needed_nodes
use Rattle.draws.specs.contracts.draw_replace
use Rattle.draws.specs.contracts.draw_prune

pub room_for_one : OneOutcome room_for.ended (λ M 𝓤. room_for.clauses {𝓤 = 𝓤})
room_for_one w κs a o o' = one room_for.ended κs a (search codes depth 9) (λ x. (x, o.1))

pub needed_nodes_one : OneOutcome needed_nodes.ended (λ M 𝓤. needed_nodes.clauses {𝓤 = 𝓤})
needed_nodes_one w κs a o o' = one needed_nodes.ended κs a (search codes depth 9) (λ x. (x, o.1))

pub draw_replace_one : OneOutcome draw_replace.ended (λ M 𝓤. draw_replace.clauses {𝓤 = 𝓤})
draw_replace_one w κs a o o' = one draw_replace.ended κs a (search codes depth 9) (λ (x : DrawOut). (x.drawn, (x.block, o.1.1)))

pub draw_prune_one : OneOutcome draw_prune.ended (λ M 𝓤. draw_prune.clauses {𝓤 = 𝓤})
draw_prune_one w κs a o o' = one draw_prune.ended κs a (search codes depth 9) (λ (x : DrawOut). (x.drawn, (x.block, o.1.1)))

-- One outcome for every public function of `nodes`: pendings, nodes and keys.
use Rattle.outcomes.specs.Outcome.{OneOutcome}
use Rattle.outcomes.proofs.Law.{one, codes}
use Rattle.nodes.specs.contracts.keys.rises
use Rattle.nodes.specs.contracts.keys.greater_at
use Rattle.nodes.specs.contracts.keys.holds
use Rattle.nodes.specs.contracts.keys.route
use Rattle.nodes.specs.contracts.keys.with_key
use Rattle.nodes.specs.contracts.keys.without_key
use Rattle.nodes.specs.contracts.keys.one_key
use Rattle.nodes.specs.contracts.keys.key_in
use Rattle.nodes.specs.contracts.keys.sprout
use Rattle.nodes.specs.contracts.node.kin_of
use Rattle.nodes.specs.contracts.node.below_of
use Rattle.nodes.specs.contracts.node.child_of
use Rattle.nodes.specs.contracts.node.is_internal
use Rattle.nodes.specs.contracts.node.is_leaf
use Rattle.nodes.specs.contracts.node.write_leaf
use Rattle.nodes.specs.contracts.node.write_internal
use Rattle.nodes.specs.contracts.pending.PendingFromU32.from as pending_of
use Rattle.nodes.specs.contracts.pending.U64FromPending.from as word_of
use Rattle.nodes.specs.contracts.pending.record_in_use
use Rattle.nodes.specs.contracts.pending.record_of_kind
use Rattle.nodes.specs.contracts.pending.pending_good

pub rises_one : OneOutcome rises.ended (λ M 𝓤. rises.clauses {𝓤 = 𝓤})
rises_one w κs a o o' = one rises.ended κs a (search codes depth 9) (λ x. (x, o.1))

pub greater_at_one : OneOutcome greater_at.ended (λ M 𝓤. greater_at.clauses {𝓤 = 𝓤})
greater_at_one w κs a o o' = one greater_at.ended κs a (search codes depth 9) (λ x. (x, o.1))

pub holds_one : OneOutcome holds.ended (λ M 𝓤. holds.clauses {𝓤 = 𝓤})
holds_one w κs a o o' = one holds.ended κs a (search codes depth 9) (λ x. (x, o.1))

pub route_one : OneOutcome route.ended (λ M 𝓤. route.clauses {𝓤 = 𝓤})
route_one w κs a o o' = one route.ended κs a (search codes depth 9) (λ x. (x, o.1))

pub with_key_one : OneOutcome with_key.ended (λ M 𝓤. with_key.clauses {𝓤 = 𝓤})
with_key_one w κs a o o' = one with_key.ended κs a (search codes depth 9) (λ x. (x, o.1))

pub without_key_one : OneOutcome without_key.ended (λ M 𝓤. without_key.clauses {𝓤 = 𝓤})
without_key_one w κs a o o' = one without_key.ended κs a (search codes depth 9) (λ x. (x, o.1))

pub one_key_one : OneOutcome one_key.ended (λ M 𝓤. one_key.clauses {𝓤 = 𝓤})
one_key_one w κs a o o' = one one_key.ended κs a (search codes depth 9) (λ x. (x, o.1))

pub key_in_one : OneOutcome key_in.ended (λ M 𝓤. key_in.clauses {𝓤 = 𝓤})
key_in_one w κs a o o' = one key_in.ended κs a (search codes depth 9) (λ x. (x, o.1))

pub sprout_one : OneOutcome sprout.ended (λ M 𝓤. sprout.clauses {𝓤 = 𝓤})
sprout_one w κs a o o' = one sprout.ended κs a (search codes depth 9) (λ x. (x, o.1))

pub kin_of_one : OneOutcome kin_of.ended (λ M 𝓤. kin_of.clauses {𝓤 = 𝓤})
kin_of_one w κs a o o' = one kin_of.ended κs a (search codes depth 9) (λ x. (x, o.1))

pub below_of_one : OneOutcome below_of.ended (λ M 𝓤. below_of.clauses {𝓤 = 𝓤})
below_of_one w κs a o o' = one below_of.ended κs a (search codes depth 9) (λ x. (x, o.1))

pub child_of_one : OneOutcome child_of.ended (λ M 𝓤. child_of.clauses {𝓤 = 𝓤})
child_of_one w κs a o o' = one child_of.ended κs a (search codes depth 9) (λ x. (x, o.1))

pub is_internal_one : OneOutcome is_internal.ended (λ M 𝓤. is_internal.clauses {𝓤 = 𝓤})
is_internal_one w κs a o o' = one is_internal.ended κs a (search codes depth 9) (λ x. (x, o.1))

pub is_leaf_one : OneOutcome is_leaf.ended (λ M 𝓤. is_leaf.clauses {𝓤 = 𝓤})
is_leaf_one w κs a o o' = one is_leaf.ended κs a (search codes depth 9) (λ x. (x, o.1))

pub write_leaf_one : OneOutcome write_leaf.ended (λ M 𝓤. write_leaf.clauses {𝓤 = 𝓤})
write_leaf_one w κs a o o' = one write_leaf.ended κs a (search codes depth 9) (λ x. (o.0, (x, o.1.1)))

pub write_internal_one : OneOutcome write_internal.ended (λ M 𝓤. write_internal.clauses {𝓤 = 𝓤})
write_internal_one w κs a o o' = one write_internal.ended κs a (search codes depth 9) (λ x. (o.0, (x, o.1.1)))

pub pending_of_one : OneOutcome pending_of.ended (λ M 𝓤. pending_of.clauses {𝓤 = 𝓤})
pending_of_one w κs a o o' = one pending_of.ended κs a (search codes depth 9) (λ x. (x, o.1))

pub word_of_one : OneOutcome word_of.ended (λ M 𝓤. word_of.clauses {𝓤 = 𝓤})
word_of_one w κs a o o' = one word_of.ended κs a (search codes depth 9) (λ x. (x, o.1))

pub record_in_use_one : OneOutcome record_in_use.ended (λ M 𝓤. record_in_use.clauses {𝓤 = 𝓤})
record_in_use_one w κs a o o' = one record_in_use.ended κs a (search codes depth 9) (λ x. (x, o.1))

pub record_of_kind_one : OneOutcome record_of_kind.ended (λ M 𝓤. record_of_kind.clauses {𝓤 = 𝓤})
record_of_kind_one w κs a o o' = one record_of_kind.ended κs a (search codes depth 9) (λ x. (x, o.1))

pub pending_good_one : OneOutcome pending_good.ended (λ M 𝓤. pending_good.clauses {𝓤 = 𝓤})
pending_good_one w κs a o o' = one pending_good.ended κs a (search codes depth 9) (λ x. (x, o.1))

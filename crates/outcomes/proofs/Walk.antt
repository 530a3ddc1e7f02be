-- One outcome for every public function of `walk`: listing, its twin, range.
use Prim.Native.Nat.{ℕ}
use mathlib.Core.List.{List}
use Rattle.outcomes.specs.Outcome.{OneOutcome, OneAs}
use Rattle.outcomes.proofs.Law.{one, one_both, codes}
use Rattle.walk.specs.Calls.{ListOut}
use Rattle.walk.specs.contracts.listing
use Rattle.walk.specs.contracts.listing_part
use Rattle.walk.specs.contracts.range

pub listing_one : OneOutcome listing.ended (λ M 𝓤. listing.clauses {𝓤 = 𝓤})
listing_one w κs a o o' = one listing.ended κs a (search codes depth 9) (λ (x : ListOut). (x.listed, (o.1.0, (x.list, o.1.1.1))))

-- The twin hands on the list that it was lent, and no clause can speak of it afterwards (docs/DECISIONS.md D9): one place and one part. The third field of a reference is the logic's own name for it.
pub listing_part_one : OneAs listing_part.ended (λ M 𝓤. listing_part.clauses {𝓤 = 𝓤}) (List ℕ × (ℕ × ℕ)) (λ κs a o. (o.0.now, o.0.ref_ptr))
listing_part_one w κs a o o' = one_both (search codes depth 9) (λ words place. (words, place))

pub range_one : OneOutcome range.ended (λ M 𝓤. range.clauses {𝓤 = 𝓤})
range_one w κs a o o' = one range.ended κs a (search codes depth 9) (λ x. (x, o.1))

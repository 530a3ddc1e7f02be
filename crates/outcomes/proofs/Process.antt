-- One outcome for every public function of `process`: the process record by value.
use Rattle.outcomes.specs.Outcome.{OneOutcome}
use Rattle.outcomes.proofs.Law.{one, codes}
use Rattle.process.specs.contracts.Answer.number
use Rattle.process.specs.contracts.Process.idle
use Rattle.process.specs.contracts.Process.started_as
use Rattle.process.specs.contracts.Process.restarted
use Rattle.process.specs.contracts.Process.with_point
use Rattle.process.specs.contracts.Process.with_pseen
use Rattle.process.specs.contracts.Process.descended
use Rattle.process.specs.contracts.Process.with_l
use Rattle.process.specs.contracts.Process.with_index
use Rattle.process.specs.contracts.Process.with_mask
use Rattle.process.specs.contracts.Process.with_other
use Rattle.process.specs.contracts.Process.with_depth
use Rattle.process.specs.contracts.Process.to_three
use Rattle.process.specs.contracts.Process.to_twelve
use Rattle.process.specs.contracts.Process.to_six
use Rattle.process.specs.contracts.Process.to_nine
use Rattle.process.specs.contracts.Process.to_ten
use Rattle.process.specs.contracts.Process.to_eleven
use Rattle.process.specs.contracts.Process.with_own
use Rattle.process.specs.contracts.steps_up
use Rattle.process.specs.contracts.Process.goes_on
use Rattle.process.specs.contracts.Process.ends
use Rattle.process.specs.contracts.is_clean

pub number_of_one : OneOutcome number.ended (λ M 𝓤. number.clauses {𝓤 = 𝓤})
number_of_one w κs a o o' = one number.ended κs a (search codes depth 9) (λ x. (x, o.1))

pub idle_record_one : OneOutcome idle.ended (λ M 𝓤. idle.clauses {𝓤 = 𝓤})
idle_record_one w κs a o o' = one idle.ended κs a (search codes depth 9) (λ x. (x, o.1))

pub started_as_one : OneOutcome started_as.ended (λ M 𝓤. started_as.clauses {𝓤 = 𝓤})
started_as_one w κs a o o' = one started_as.ended κs a (search codes depth 9) (λ x. (x, o.1))

pub restarted_one : OneOutcome restarted.ended (λ M 𝓤. restarted.clauses {𝓤 = 𝓤})
restarted_one w κs a o o' = one restarted.ended κs a (search codes depth 9) (λ x. (x, o.1))

pub with_point_one : OneOutcome with_point.ended (λ M 𝓤. with_point.clauses {𝓤 = 𝓤})
with_point_one w κs a o o' = one with_point.ended κs a (search codes depth 9) (λ x. (x, o.1))

pub with_pseen_one : OneOutcome with_pseen.ended (λ M 𝓤. with_pseen.clauses {𝓤 = 𝓤})
with_pseen_one w κs a o o' = one with_pseen.ended κs a (search codes depth 9) (λ x. (x, o.1))

pub descended_one : OneOutcome descended.ended (λ M 𝓤. descended.clauses {𝓤 = 𝓤})
descended_one w κs a o o' = one descended.ended κs a (search codes depth 9) (λ x. (x, o.1))

pub with_l_one : OneOutcome with_l.ended (λ M 𝓤. with_l.clauses {𝓤 = 𝓤})
with_l_one w κs a o o' = one with_l.ended κs a (search codes depth 9) (λ x. (x, o.1))

pub with_index_one : OneOutcome with_index.ended (λ M 𝓤. with_index.clauses {𝓤 = 𝓤})
with_index_one w κs a o o' = one with_index.ended κs a (search codes depth 9) (λ x. (x, o.1))

pub with_mask_one : OneOutcome with_mask.ended (λ M 𝓤. with_mask.clauses {𝓤 = 𝓤})
with_mask_one w κs a o o' = one with_mask.ended κs a (search codes depth 9) (λ x. (x, o.1))

pub with_other_one : OneOutcome with_other.ended (λ M 𝓤. with_other.clauses {𝓤 = 𝓤})
with_other_one w κs a o o' = one with_other.ended κs a (search codes depth 9) (λ x. (x, o.1))

pub with_depth_one : OneOutcome with_depth.ended (λ M 𝓤. with_depth.clauses {𝓤 = 𝓤})
with_depth_one w κs a o o' = one with_depth.ended κs a (search codes depth 9) (λ x. (x, o.1))

pub to_three_one : OneOutcome to_three.ended (λ M 𝓤. to_three.clauses {𝓤 = 𝓤})
to_three_one w κs a o o' = one to_three.ended κs a (search codes depth 9) (λ x. (x, o.1))

pub to_twelve_one : OneOutcome to_twelve.ended (λ M 𝓤. to_twelve.clauses {𝓤 = 𝓤})
to_twelve_one w κs a o o' = one to_twelve.ended κs a (search codes depth 9) (λ x. (x, o.1))

pub to_six_one : OneOutcome to_six.ended (λ M 𝓤. to_six.clauses {𝓤 = 𝓤})
to_six_one w κs a o o' = one to_six.ended κs a (search codes depth 9) (λ x. (x, o.1))

pub to_nine_one : OneOutcome to_nine.ended (λ M 𝓤. to_nine.clauses {𝓤 = 𝓤})
to_nine_one w κs a o o' = one to_nine.ended κs a (search codes depth 9) (λ x. (x, o.1))

pub to_ten_one : OneOutcome to_ten.ended (λ M 𝓤. to_ten.clauses {𝓤 = 𝓤})
to_ten_one w κs a o o' = one to_ten.ended κs a (search codes depth 9) (λ x. (x, o.1))

pub to_eleven_one : OneOutcome to_eleven.ended (λ M 𝓤. to_eleven.clauses {𝓤 = 𝓤})
to_eleven_one w κs a o o' = one to_eleven.ended κs a (search codes depth 9) (λ x. (x, o.1))

pub with_own_one : OneOutcome with_own.ended (λ M 𝓤. with_own.clauses {𝓤 = 𝓤})
with_own_one w κs a o o' = one with_own.ended κs a (search codes depth 9) (λ x. (x, o.1))

pub steps_up_one : OneOutcome steps_up.ended (λ M 𝓤. steps_up.clauses {𝓤 = 𝓤})
steps_up_one w κs a o o' = one steps_up.ended κs a (search codes depth 9) (λ x. (x, o.1))

pub goes_on_one : OneOutcome goes_on.ended (λ M 𝓤. goes_on.clauses {𝓤 = 𝓤})
goes_on_one w κs a o o' = one goes_on.ended κs a (search codes depth 9) (λ x. (x, o.1))

pub ends_one : OneOutcome ends.ended (λ M 𝓤. ends.clauses {𝓤 = 𝓤})
ends_one w κs a o o' = one ends.ended κs a (search codes depth 9) (λ x. (x, o.1))

pub is_clean_one : OneOutcome is_clean.ended (λ M 𝓤. is_clean.clauses {𝓤 = 𝓤})
is_clean_one w κs a o o' = one is_clean.ended κs a (search codes depth 9) (λ x. (x, o.1))

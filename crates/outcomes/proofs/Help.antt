-- One outcome for every public function of `help`: helping, and what is shared by the points of a record being helped.
use Rattle.outcomes.specs.Outcome.{OneOutcome}
use Rattle.outcomes.proofs.Law.{one, codes}
use Rattle.help.specs.contracts.seen_good
use Rattle.help.specs.contracts.top_of
use Rattle.help.specs.contracts.helping
use Rattle.help.specs.contracts.help_good
use Rattle.help.specs.contracts.non_empty
use Rattle.help.specs.contracts.help_ended
use Rattle.help.specs.contracts.top_good
use Rattle.help.specs.contracts.helped_l
use Rattle.help.specs.contracts.helped_p
use Rattle.help.specs.contracts.helped_third
use Rattle.help.specs.contracts.clear_flag

pub seen_good_one : OneOutcome seen_good.ended (λ M 𝓤. seen_good.clauses {𝓤 = 𝓤})
seen_good_one w κs a o o' = one seen_good.ended κs a (search codes depth 9) (λ x. (x, o.1))

pub top_of_one : OneOutcome top_of.ended (λ M 𝓤. top_of.clauses {𝓤 = 𝓤})
top_of_one w κs a o o' = one top_of.ended κs a (search codes depth 9) (λ x. (x, o.1))

pub helping_one : OneOutcome helping.ended (λ M 𝓤. helping.clauses {𝓤 = 𝓤})
helping_one w κs a o o' = one helping.ended κs a (search codes depth 9) (λ x. (x, o.1))

pub help_good_one : OneOutcome help_good.ended (λ M 𝓤. help_good.clauses {𝓤 = 𝓤})
help_good_one w κs a o o' = one help_good.ended κs a (search codes depth 9) (λ x. (x, o.1))

pub non_empty_one : OneOutcome non_empty.ended (λ M 𝓤. non_empty.clauses {𝓤 = 𝓤})
non_empty_one w κs a o o' = one non_empty.ended κs a (search codes depth 9) (λ x. (x, o.1))

pub help_ended_one : OneOutcome help_ended.ended (λ M 𝓤. help_ended.clauses {𝓤 = 𝓤})
help_ended_one w κs a o o' = one help_ended.ended κs a (search codes depth 9) (λ x. (x, o.1))

pub top_good_one : OneOutcome top_good.ended (λ M 𝓤. top_good.clauses {𝓤 = 𝓤})
top_good_one w κs a o o' = one top_good.ended κs a (search codes depth 9) (λ x. (x, o.1))

pub helped_l_one : OneOutcome helped_l.ended (λ M 𝓤. helped_l.clauses {𝓤 = 𝓤})
helped_l_one w κs a o o' = one helped_l.ended κs a (search codes depth 9) (λ x. (x, o.1))

pub helped_p_one : OneOutcome helped_p.ended (λ M 𝓤. helped_p.clauses {𝓤 = 𝓤})
helped_p_one w κs a o o' = one helped_p.ended κs a (search codes depth 9) (λ x. (x, o.1))

pub helped_third_one : OneOutcome helped_third.ended (λ M 𝓤. helped_third.clauses {𝓤 = 𝓤})
helped_third_one w κs a o o' = one helped_third.ended κs a (search codes depth 9) (λ x. (x, o.1))

pub clear_flag_one : OneOutcome clear_flag.ended (λ M 𝓤. clear_flag.clauses {𝓤 = 𝓤})
clear_flag_one w κs a o o' = one clear_flag.ended κs a (search codes depth 9) (λ x. (o.0, (x, o.1.1)))

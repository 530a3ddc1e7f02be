-- One outcome for every public function of `print`: lines written into a buffer.
use Rattle.outcomes.specs.Outcome.{OneOutcome}
use Rattle.outcomes.proofs.Law.{one, codes}
use Rattle.print.specs.Writing.{Out}
use Rattle.print.specs.contracts.write.put_bytes
use Rattle.print.specs.contracts.write.write_answer
use Rattle.print.specs.contracts.write.write_refused
use Rattle.print.specs.contracts.write.write_count
use Rattle.print.specs.contracts.write.write_key
use Rattle.print.specs.contracts.write.write_plain_making
use Rattle.print.specs.contracts.write.write_making
use Rattle.print.specs.contracts.write.write_start
use Rattle.print.specs.contracts.write.write_steps
use Rattle.print.specs.contracts.write.write_list

pub put_bytes_one : OneOutcome put_bytes.ended (λ M 𝓤. put_bytes.clauses {𝓤 = 𝓤})
put_bytes_one w κs a o o' = one put_bytes.ended κs a (search codes depth 9) (λ (x : Out). (x.at, (x.buffer, o.1.1)))

pub write_answer_one : OneOutcome write_answer.ended (λ M 𝓤. write_answer.clauses {𝓤 = 𝓤})
write_answer_one w κs a o o' = one write_answer.ended κs a (search codes depth 9) (λ (x : Out). (x.at, (x.buffer, o.1.1)))

pub write_refused_one : OneOutcome write_refused.ended (λ M 𝓤. write_refused.clauses {𝓤 = 𝓤})
write_refused_one w κs a o o' = one write_refused.ended κs a (search codes depth 9) (λ (x : Out). (x.at, (x.buffer, o.1.1)))

pub write_count_one : OneOutcome write_count.ended (λ M 𝓤. write_count.clauses {𝓤 = 𝓤})
write_count_one w κs a o o' = one write_count.ended κs a (search codes depth 9) (λ (x : Out). (x.at, (x.buffer, o.1.1)))

pub write_key_one : OneOutcome write_key.ended (λ M 𝓤. write_key.clauses {𝓤 = 𝓤})
write_key_one w κs a o o' = one write_key.ended κs a (search codes depth 9) (λ (x : Out). (x.at, (x.buffer, o.1.1)))

pub write_plain_making_one : OneOutcome write_plain_making.ended (λ M 𝓤. write_plain_making.clauses {𝓤 = 𝓤})
write_plain_making_one w κs a o o' = one write_plain_making.ended κs a (search codes depth 9) (λ (x : Out). (x.at, (x.buffer, o.1.1)))

pub write_making_one : OneOutcome write_making.ended (λ M 𝓤. write_making.clauses {𝓤 = 𝓤})
write_making_one w κs a o o' = one write_making.ended κs a (search codes depth 9) (λ (x : Out). (x.at, (x.buffer, o.1.1)))

pub write_start_one : OneOutcome write_start.ended (λ M 𝓤. write_start.clauses {𝓤 = 𝓤})
write_start_one w κs a o o' = one write_start.ended κs a (search codes depth 9) (λ (x : Out). (x.at, (x.buffer, o.1.1)))

pub write_steps_one : OneOutcome write_steps.ended (λ M 𝓤. write_steps.clauses {𝓤 = 𝓤})
write_steps_one w κs a o o' = one write_steps.ended κs a (search codes depth 9) (λ (x : Out). (x.at, (x.buffer, o.1.1)))

pub write_list_one : OneOutcome write_list.ended (λ M 𝓤. write_list.clauses {𝓤 = 𝓤})
write_list_one w κs a o o' = one write_list.ended κs a (search codes depth 9) (λ (x : Out). (x.at, (x.buffer, o.1.1)))

-- What is held of a line stays within its buffer.
use Rattle.session.proofs.Written.{written_within}
use Rattle.bench.proofs.Bench.hold.Goals as goal

pub invariant_of-self : goal.invariant_of-self
invariant_of-self c = record { within = written_within _ _ _ _ _ c.put_bytes-self.ensures c.args.self.now.within }

-- The proof that `store_keys` keeps its contract.
use Rattle.std.proofs.Common.{arith}
use Rattle.fill.proofs.Storing.{stored_none, stored_more}
use Rattle.fill.proofs.store_keys.Goals as goal

pub loop-i-init : goal.loop-i-init
loop-i-init c = search stored_none

pub loop-i-preserved : goal.loop-i-preserved
loop-i-preserved c = stored_more _ c.args.h _ _ _ c.loop-i.list _ _ _ _ _ c.loop-i.invariant c.key_word-key.ensures c.from.ensures (omega arith) c.saturating_add.ensures c.put_at.ensures

-- The proof that `text::put_keys` keeps its contract.
use Rattle.session.proofs.Texts.{keys_again, keys_done}
use Rattle.session.proofs.text.put_keys.Goals as goal

pub loop-key-preserved : goal.loop-key-preserved
loop-key-preserved c = keys_again _ _ _ _ _ c.loop-key.invariant _ _ c.loop-key-test.true c.write_key-next.ensures

pub returns : goal.returns
returns c = keys_done _ _ _ _ _ c.loop-key.invariant c.loop-key-test.false

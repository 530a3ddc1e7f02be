-- The proof that `text::put_said` keeps its contract.
use Rattle.session.proofs.Texts.{saids}
use Rattle.session.proofs.text.put_said.Goals as goal

pub returns-in-Listed : goal.returns-in-Listed
returns-in-Listed c = search saids

-- The proof that `read::split_word` keeps its contract.
use Rattle.std.proofs.Common.{◌∙◌, rules, ◌||◌, eqb}
use Rattle.std.proofs.lemmas.Iterator.{YieldsList-from_slice}
use Rattle.std.proofs.lemmas.Iterator.Search.{position_from_yields_List}
use Rattle.print.specs.Text.{in_word}
use Rattle.script.proofs.Runs.{run_end, take-front, drop-front}
use Rattle.script.proofs.Turns.{word_ends}
use Rattle.script.proofs.read.split_word.Goals as goal

pub returns : goal.returns
returns c =
    let found = position_from_yields_List (λ b. eqb b 32 || eqb b 10) _ _ c.position-end.result c.position-end.ensures.ran (YieldsList-from_slice _ c.iter.ensures.rest) (λ x b q k. search rules) in
    let e = run_end in_word _ word_ends _ _ _ found c.unwrap_or.ensures in
    record { word = c.split_at.ensures.front ∙ rw e (take-front in_word c.args.line.now); rest = c.split_at.ensures.back ∙ rw e (drop-front in_word c.args.line.now) }

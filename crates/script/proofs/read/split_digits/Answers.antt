-- The proof that `read::split_digits` keeps its contract.
use Rattle.std.proofs.Common.{◌∙◌, rules, not}
use Rattle.std.proofs.lemmas.Iterator.{YieldsList-from_slice}
use Rattle.std.proofs.lemmas.Iterator.Search.{position_from_yields_List}
use Rattle.std.specs.Char.{is_ascii_digit}
use Rattle.print.specs.Text.{is_digit}
use Rattle.script.proofs.Runs.{run_end, take-front, drop-front}
use Rattle.script.proofs.Turns.{digit_is}
use Rattle.script.proofs.read.split_digits.Goals as goal

pub returns : goal.returns
returns c =
    let found = position_from_yields_List (λ b. not (is_ascii_digit b)) _ _ c.position-end.result c.position-end.ensures.ran (YieldsList-from_slice _ c.iter.ensures.rest) (λ x b q k. search rules) in
    let e = run_end is_digit _ digit_is _ _ _ found c.unwrap_or.ensures in
    record { digits = c.split_at.ensures.front ∙ rw e (take-front is_digit c.args.line.now); rest = c.split_at.ensures.back ∙ rw e (drop-front is_digit c.args.line.now) }

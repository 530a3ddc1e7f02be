-- The proof that `read::read_line` keeps its contract.
use Rattle.std.proofs.Common.{◌≡◌, rules}
use Rattle.script.specs.Reading.{first_of, making_from, start_of, steps_of, list_of}
use Rattle.script.proofs.Turns.{line_long, line_by}
use Rattle.script.proofs.read.read_line.Goals as goal

pub returns-then-line-gt-LONGEST : goal.returns-then-line-gt-LONGEST
returns-then-line-gt-LONGEST c = line_long _ c.if-line-gt-LONGEST.true

pub returns : goal.returns
returns c =
    let b : c.or_else.result ≡ first_of c.making_with_k.result (making_from 0 c.args.line.now) = search rules in
    let d : c.or_else-2.result ≡ first_of c.or_else.result (start_of c.args.line.now) = search rules in
    let e : c.or_else-3.result ≡ first_of c.or_else-2.result (steps_of c.args.line.now) = search rules in
    let f : c.or_else-4.result ≡ first_of c.or_else-3.result (list_of c.args.line.now) = search rules in
    line_by _ _ _ _ _ _ c.if-line-gt-LONGEST.false c.making_with_k.ensures b d e f

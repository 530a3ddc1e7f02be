-- The proof that `cut::line_end` keeps its contract.
use Rattle.std.proofs.Common.{rules, arith, refl, eqb}
use Rattle.std.proofs.lemmas.Iterator.{YieldsList-from_slice}
use Rattle.std.proofs.lemmas.Iterator.Search.{position_from_yields_List}
use Rattle.session.specs.Cut.{in_line}
use Rattle.script.proofs.Runs.{run_end}
use Rattle.session.proofs.Cuts.{end_past, end_in}
use Rattle.session.proofs.cut.line_end.Goals as goal

pub returns-in_default : goal.returns-in_default
returns-in_default c = end_past _ _ (grind (arith, c.in_default.ensures.lookup))

pub returns : goal.returns
returns c =
    let found = position_from_yields_List (λ b. eqb b 10) _ _ c.position.result c.position.ensures.ran (YieldsList-from_slice _ c.iter.ensures.rest) (λ x b q k. search rules) in
    end_in _ _ _ _ c.in-Some.ensures.lookup.0.2 (run_end in_line _ (λ b. refl) _ _ _ found c.unwrap_or.ensures)

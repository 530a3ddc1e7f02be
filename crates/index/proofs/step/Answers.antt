-- A step whose record is put back, and one that is refused.
use Rattle.std.proofs.Common.{sym, ap, ◌∙◌}
use Rattle.std.proofs.lemmas.Result.{err_from_is_err_and}
use Rattle.help.specs.Touch.{out}
use Rattle.index.proofs.Called.{step_refuses, step_accepted}
use Rattle.index.proofs.step.Goals as goal

pub returns : goal.returns
returns c =
    let a = c.args in
    step_accepted a.block.now a.row.now a.process _ _ c.saturating_sub-at.ensures c.take.ensures _ _ _
    (ap (λ x. out x c.step.new.block) (sym c.in_ok-stepped.was) ∙ c.step.ensures)
    c.put.ensures

pub returns-in_err-stepped : goal.returns-in_err-stepped
returns-in_err-stepped c =
    let a = c.args in
    let p = err_from_is_err_and c.from_residual.result c.from_residual.ensures.1 in
    rw (p.1, p.2)
    (step_refuses a.block.now a.row.now a.process _ _ c.saturating_sub-at.ensures c.take.ensures _ _
    (ap (λ x. out x c.step.new.block) (sym c.in_err-stepped.was) ∙ c.step.ensures))

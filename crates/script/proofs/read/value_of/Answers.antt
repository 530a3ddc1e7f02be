-- The proof that `read::value_of` keeps its contract.
use Rattle.std.proofs.Common.{arith, refl, ◌∙◌}
use Rattle.script.proofs.Turns.{value_again, value_big, value_done}
use Rattle.script.proofs.read.value_of.Goals as goal

pub returns-in_err-checked_mul : goal.returns-in_err-checked_mul
returns-in_err-checked_mul c = c.from_residual.ensures ∙ value_big _ _ _ c.loop-digit.invariant.1 _ c.loop-digit-test.true refl (omega arith)

pub returns-in_err-value : goal.returns-in_err-value
returns-in_err-value c =
    c.from_residual-in_err-value.ensures
    ∙ value_big _ _ _ c.loop-digit.invariant.1 c.from.result c.loop-digit-test.true (c.from.ensures ∙ c.saturating_sub.ensures) (omega (arith, c.in_ok-checked_mul.ensures))

pub loop-digit-preserved : goal.loop-digit-preserved
loop-digit-preserved c = (
  omega (arith, c.in_ok-value.ensures),
  value_again _ _ _ c.loop-digit.invariant.1 c.from.result c.in_ok-value.value c.loop-digit-test.true (c.from.ensures ∙ c.saturating_sub.ensures)
      (omega (arith, c.in_ok-value.ensures, c.in_ok-checked_mul.ensures)),
)

pub returns : goal.returns
returns c = value_done _ _ _ c.loop-digit.invariant.1 c.loop-digit-test.false c.loop-digit.invariant.0

-- The proof that `read::number` keeps its contract.
use Rattle.script.proofs.Turns.{number_none, number_big, number_fits}
use Rattle.script.proofs.read.number.Goals as goal

pub returns-then-is_empty : goal.returns-then-is_empty
returns-then-is_empty c = number_none _ _ _ c.split_digits.ensures.digits c.split_digits.ensures.rest c.if-is_empty.ensures

pub returns-in_err-value_of : goal.returns-in_err-value_of
returns-in_err-value_of c = rw c.from_residual.ensures (number_big _ _ _ c.split_digits.ensures.digits c.split_digits.ensures.rest c.if-is_empty.ensures c.in_err-value_of.ensures)

pub returns : goal.returns
returns c = number_fits _ _ _ c.split_digits.ensures.digits c.split_digits.ensures.rest c.if-is_empty.ensures _ c.in_ok-value_of.ensures

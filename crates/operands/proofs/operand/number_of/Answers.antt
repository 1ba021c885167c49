-- `number_of` meets its contract.
use Rattle.operands.proofs.RowOperand.{number_value, number_stuck}
use Rattle.operands.proofs.operand.number_of.Goals as goal

pub returns-in_err-z : goal.returns-in_err-z
returns-in_err-z c = search (number_stuck, c.in_err-z.was)

pub returns : goal.returns
returns c = search (number_value, c.in_ok-z.was)

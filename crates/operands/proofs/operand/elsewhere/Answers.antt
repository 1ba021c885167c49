-- `elsewhere` meets its contract.
use Rattle.operands.proofs.RowOperand.{there_stuck, there_here, there_same}
use Rattle.operands.proofs.operand.elsewhere.Goals as goal

pub returns-in_err-other : goal.returns-in_err-other
returns-in_err-other c = search (there_stuck, c.in_err-other.ensures)

pub returns-in-Here : goal.returns-in-Here
returns-in-Here c = search (there_here, c.in_ok-other.ensures)

pub returns-in_default : goal.returns-in_default
returns-in_default c = search (there_same, c.in_ok-other.ensures)

-- `equal` meets its contract.
use Rattle.operands.proofs.RowOperand.{equal_stuck, equal_stuck_second, equal_short, equal_here, equal_there}
use Rattle.operands.proofs.operand.equal.Goals as goal

pub returns-in_default : goal.returns-in_default
returns-in_default c = search equal_stuck_second

pub returns-in_default-2 : goal.returns-in_default-2
returns-in_default-2 c = search equal_stuck

pub returns-in-Short : goal.returns-in-Short
returns-in-Short c = search equal_short

pub returns-in-Here : goal.returns-in-Here
returns-in-Here c = search equal_here

pub returns-in-There : goal.returns-in-There
returns-in-There c = search equal_there

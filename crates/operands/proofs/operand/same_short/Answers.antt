-- `same_short` meets its contract.
use Rattle.operands.proofs.RowOperand.{same_shorts, same_short_differs, short_no_long}
use Rattle.operands.proofs.operand.same_short.Goals as goal

pub returns-then-w-v : goal.returns-then-w-v
returns-then-w-v c = search same_shorts

pub returns-else-w-v : goal.returns-else-w-v
returns-else-w-v c = search same_short_differs

pub returns-in_default : goal.returns-in_default
returns-in_default c = search (short_no_long, c.in_default)

-- `on_integers` meets its contract.
use Rattle.operands.proofs.RowOperand.{less_gives, at_most_gives, computed_gives}
use Rattle.operands.proofs.operand.on_integers.Goals as goal

pub returns-in-7 : goal.returns-in-7
returns-in-7 c = search less_gives

pub returns-in-8 : goal.returns-in-8
returns-in-8 c = search at_most_gives

pub returns-in_default : goal.returns-in_default
returns-in_default c = search computed_gives

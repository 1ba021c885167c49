-- `same_long` meets its contract.
use Rattle.operands.proofs.RowOperand.{long_past, long_here_same, long_there_same, long_no_short}
use Rattle.operands.proofs.operand.same_long.Goals as goal

pub returns-then-a-i : goal.returns-then-a-i
returns-then-a-i c = search long_past

pub returns-in-Here : goal.returns-in-Here
returns-in-Here c = search long_here_same

pub returns-in-There : goal.returns-in-There
returns-in-There c = search long_there_same

pub returns-in-Short : goal.returns-in-Short
returns-in-Short c = search long_no_short

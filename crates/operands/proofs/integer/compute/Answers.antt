-- `compute` meets its contract.
use Rattle.operands.proofs.RowOperand.{computes_add, computes_subtract, computes_multiply, computes_div, computes_rem, computes_none}
use Rattle.operands.proofs.integer.compute.Goals as goal

pub returns-in-0 : goal.returns-in-0
returns-in-0 c = search computes_add

pub returns-in-1 : goal.returns-in-1
returns-in-1 c = search computes_subtract

pub returns-in-2 : goal.returns-in-2
returns-in-2 c = search computes_multiply

pub returns-in-3 : goal.returns-in-3
returns-in-3 c = search computes_div

pub returns-in-4 : goal.returns-in-4
returns-in-4 c = search computes_rem

pub returns-in_default : goal.returns-in_default
returns-in_default c = search computes_none

-- `truth_of` meets its contract.
use Rattle.operands.proofs.RowOperand.{truth_true, truth_false}
use Rattle.operands.proofs.operand.truth_of.Goals as goal

pub returns-then-b : goal.returns-then-b
returns-then-b c = search truth_true

pub returns : goal.returns
returns c = search truth_false

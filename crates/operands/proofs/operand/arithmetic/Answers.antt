-- `arithmetic` meets its contract.
use Rattle.operands.proofs.RowOperand.{first_long, second_long, no_integers, both_integers}
use Rattle.operands.proofs.operand.arithmetic.Goals as goal

pub returns-in_default : goal.returns-in_default
returns-in_default c = search (second_long, c.in_default.not-Short-1)

pub returns-in_default-2 : goal.returns-in_default-2
returns-in_default-2 c = search (first_long, c.in_default.not-Short-0)

pub returns-then-w-ne-INTEGER_WORD : goal.returns-then-w-ne-INTEGER_WORD
returns-then-w-ne-INTEGER_WORD c = search no_integers

pub returns : goal.returns
returns c = search both_integers

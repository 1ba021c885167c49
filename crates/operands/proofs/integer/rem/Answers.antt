-- `rem` meets its contract.
use Rattle.operands.proofs.RowInteger.{rem_none, rem_value}
use Rattle.operands.proofs.integer.rem.Goals as goal

pub returns-then-y-eq0 : goal.returns-then-y-eq0
returns-then-y-eq0 c = search rem_none

pub returns : goal.returns
returns c = search rem_value

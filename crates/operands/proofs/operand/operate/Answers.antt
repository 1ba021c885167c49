-- `operate` meets its contract.
use Rattle.operands.proofs.RowOperand.{operate_stuck, operate_stuck_second, operates_equal, operates_unequal, operates_integers}
use Rattle.operands.proofs.operand.operate.Goals as goal

pub returns-in_err-first : goal.returns-in_err-first
returns-in_err-first c = search (operate_stuck, c.in_err-first.was)

pub returns-in_err-second : goal.returns-in_err-second
returns-in_err-second c = search (operate_stuck_second, c.in_err-second.was)

pub returns-in-5 : goal.returns-in-5
returns-in-5 c = search (operates_equal, c.in_ok-first.was, c.in_ok-second.was)

pub returns-in-6 : goal.returns-in-6
returns-in-6 c = search (operates_unequal, c.in_ok-first.was, c.in_ok-second.was)

pub returns-in_default : goal.returns-in_default
returns-in_default c = search (operates_integers, c.in_ok-first.was, c.in_ok-second.was)

-- `guard` meets its contract.
use Rattle.operands.proofs.RowGuard.{guard_past, guard_variable, guard_value, guard_broken, guard_call}
use Rattle.operands.proofs.guard.+guard.Goals as goal

pub returns-then-c-at : goal.returns-then-c-at
returns-then-c-at t c = search guard_past

pub returns-in-1 : goal.returns-in-1
returns-in-1 t c = search guard_variable

pub returns-in_default : goal.returns-in_default
returns-in_default t c = search guard_value

pub returns-then-first-at : goal.returns-then-first-at
returns-then-first-at t c = search guard_broken

pub returns-else-first-at : goal.returns-else-first-at
returns-else-first-at t c = search guard_call

-- `shape::shape::stands_in_guard` meets its contract.
use Rattle.shape.proofs.SpotLaws.{guard_call, guard_control, guard_pid, guard_module}
use Rattle.shape.proofs.shape.stands_in_guard.Goals as goal

pub returns-then-tag-eq-CALL : goal.returns-then-tag-eq-CALL
returns-then-tag-eq-CALL c = search guard_call

pub returns-then-places-ne0 : goal.returns-then-places-ne0
returns-then-places-ne0 c = search guard_control

pub returns-then-tag-ne-PID : goal.returns-then-tag-ne-PID
returns-then-tag-ne-PID c = search guard_module

pub returns-else-tag-ne-PID : goal.returns-else-tag-ne-PID
returns-else-tag-ne-PID c = search guard_pid

-- `shape::shape::k_limit` meets its contract.
use Rattle.shape.proofs.SpotLaws.{limit_pid, limit_other}
use Rattle.shape.proofs.shape.k_limit.Goals as goal

pub returns-then-tag-eq-PID : goal.returns-then-tag-eq-PID
returns-then-tag-eq-PID c = search limit_pid

pub returns-else-tag-eq-PID : goal.returns-else-tag-eq-PID
returns-else-tag-eq-PID c = search limit_other

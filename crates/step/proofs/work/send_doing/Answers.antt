-- `send_doing` meets its contract.
use Rattle.step.proofs.RowWork.{sending_short, sending_pid, sending_other}
use Rattle.step.proofs.work.send_doing.Goals as goal

pub returns-then-c-at-lt2 : goal.returns-then-c-at-lt2
returns-then-c-at-lt2 c = search sending_short

pub returns-then-tag-eq-PID : goal.returns-then-tag-eq-PID
returns-then-tag-eq-PID c = search sending_pid

pub returns : goal.returns
returns c = search sending_other

-- `doing_at` meets its contract.
use Rattle.step.proofs.RowWork.{at_past, at_call, at_seq, at_case, at_receive, at_spawn, at_send, at_self, at_check, at_other}
use Rattle.step.proofs.work.doing_at.Goals as goal

pub returns-then-c-at : goal.returns-then-c-at
returns-then-c-at c = search at_past

pub returns-in-8 : goal.returns-in-8
returns-in-8 c = search at_call

pub returns-in-9 : goal.returns-in-9
returns-in-9 c = search at_seq

pub returns-in-10 : goal.returns-in-10
returns-in-10 c = search at_case

pub returns-in-12 : goal.returns-in-12
returns-in-12 c = search at_receive

pub returns-in-13 : goal.returns-in-13
returns-in-13 c = search at_spawn

pub returns-in-14 : goal.returns-in-14
returns-in-14 c = search at_send

pub returns-in-15 : goal.returns-in-15
returns-in-15 c = search at_self

pub returns-in-16 : goal.returns-in-16
returns-in-16 c = search at_check

pub returns-in_default : goal.returns-in_default
returns-in_default c = search at_other

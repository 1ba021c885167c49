-- `step_live` meets its contract.
use Rattle.stepping.proofs.Steps.{step_at_spawn, step_stuck, step_finished, about_ready}
use Rattle.stepping.proofs.stepping.step_live.Goals as goal

pub step_seq-requires : goal.step_seq-requires
step_seq-requires c = search about_ready

pub step_send-requires : goal.step_send-requires
step_send-requires c = search about_ready

pub step_receive-requires : goal.step_receive-requires
step_receive-requires c = search about_ready

pub step_self-requires : goal.step_self-requires
step_self-requires c = search about_ready

pub step_check-requires : goal.step_check-requires
step_check-requires c = search about_ready

pub returns-in-Finished : goal.returns-in-Finished
returns-in-Finished c = search step_finished

pub returns-in-Stuck : goal.returns-in-Stuck
returns-in-Stuck c = search step_stuck

pub returns-in-Spawn : goal.returns-in-Spawn
returns-in-Spawn c = search step_at_spawn

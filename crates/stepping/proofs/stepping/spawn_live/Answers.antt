-- `spawn_live` meets its contract.
use Rattle.stepping.proofs.Steps.{spawn_elsewhere, spawn_finished, about_ready}
use Rattle.stepping.proofs.stepping.spawn_live.Goals as goal

pub spawn_at-requires : goal.spawn_at-requires
spawn_at-requires c = search about_ready

pub returns-in-Finished : goal.returns-in-Finished
returns-in-Finished c = search spawn_finished

pub returns-in_default : goal.returns-in_default
returns-in_default c = spawn_elsewhere _ _ _ c.requires.1 c.doing-d.ensures _ c.in_default.not-Finished c.in_default.not-Spawn

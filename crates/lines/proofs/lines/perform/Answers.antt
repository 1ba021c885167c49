-- `perform` meets its contract.
use mathlib.Core.Path.{◌≡◌}
use native.Mathlib.Omega.{arith}
use Rattle.std.specs.Prelude.{Err}
use Rattle.calls.specs.declared.answers.Refusal.TheVariants.{BadLine}
use Rattle.replies.proofs.LineLaws.{asked_step, asked_spawn, asked_deliver, asked_back, asked_undeliver, asked_rollback, asked_nothing}
use Rattle.lines.proofs.lines.perform.Goals as goal

pub returns-in-Step : goal.returns-in-Step
returns-in-Step c = asked_step _ _ _ _ _ c.in_ok-command.ensures.ok_part _ c.in-Step.is c.step.ensures

pub returns-in-Spawn : goal.returns-in-Spawn
returns-in-Spawn c = asked_spawn _ _ _ _ _ c.in_ok-command.ensures.ok_part _ _ c.in-Spawn.is c.spawn.ensures

pub returns-in-Deliver : goal.returns-in-Deliver
returns-in-Deliver c = asked_deliver _ _ _ _ _ c.in_ok-command.ensures.ok_part _ _ c.in-Deliver.is c.deliver.ensures

pub returns-in-Back : goal.returns-in-Back
returns-in-Back c = asked_back _ _ _ _ _ c.in_ok-command.ensures.ok_part _ c.in-Back.is c.back.ensures

pub returns-in-Undeliver : goal.returns-in-Undeliver
returns-in-Undeliver c = asked_undeliver _ _ _ _ _ c.in_ok-command.ensures.ok_part _ c.in-Undeliver.is c.undeliver.ensures

pub returns-in-Rollback : goal.returns-in-Rollback
returns-in-Rollback c = asked_rollback _ _ _ _ _ c.in_ok-command.ensures.ok_part _ _ c.in-Rollback.is c.rollback.ensures

pub returns-in_err-command : goal.returns-in_err-command
returns-in_err-command c =
    let is : c.from_residual.result ≡ Err BadLine = grind arith in
    rw is (asked_nothing _ _ c.in_err-command.ensures.ok_part)

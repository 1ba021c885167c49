-- `is_rollback` meets its contract.
use Rattle.replies.proofs.LineLaws.{a_rollback, no_rollback, nothing_rolls}
use Rattle.replies.proofs.replies.is_rollback.Goals as goal

pub returns-in-Rollback : goal.returns-in-Rollback
returns-in-Rollback c = search a_rollback

pub returns-in_default : goal.returns-in_default
returns-in_default c = search (no_rollback, c.in_default.not-Rollback)

pub returns-in-None : goal.returns-in-None
returns-in-None c = search nothing_rolls

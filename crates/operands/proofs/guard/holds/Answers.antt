-- `holds` meets its contract.
use Rattle.operands.proofs.RowGuard.{holds_stuck, holds_short, holds_long}
use Rattle.operands.proofs.guard.holds.Goals as goal

pub returns-in_default : goal.returns-in_default
returns-in_default c = search holds_stuck

pub returns-in-Short : goal.returns-in-Short
returns-in-Short c = search holds_short

pub returns-in_default-what : goal.returns-in_default-what
returns-in_default-what c = search (holds_long, c.in_default-what.not-Short)

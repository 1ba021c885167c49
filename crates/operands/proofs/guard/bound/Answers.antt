-- `bound` meets its contract.
use Rattle.operands.proofs.RowGuard.{looked_past, looked_none, looked_value}
use Rattle.operands.proofs.guard.bound.Goals as goal

pub returns-in_err-after : goal.returns-in_err-after
returns-in_err-after c = search (looked_past, c.in_err-after.ensures.lookup.3)

pub returns-in_err-place : goal.returns-in_err-place
returns-in_err-place c = search (looked_none, c.in_ok-after.ensures.lookup.3.1 0, c.in_err-place.ensures)

pub returns : goal.returns
returns c = search (looked_value, c.in_ok-after.ensures.lookup.3.1 0, c.in_ok-place.ensures)

-- `checks::control::check_control` meets its contract.
use mathlib.Core.Path.{◌∙◌}
use Rattle.checks.proofs.ControlLaws.{control_fails, control_more, control_kept}
use Rattle.checks.proofs.control.check_control.Goals as goal

pub returns-in_default : goal.returns-in_default
returns-in_default c = search (control_fails, c.in_default.ensures)

pub returns-then-a-row : goal.returns-then-a-row
returns-then-a-row c = search (control_more, c.in-Ok.ensures)

pub returns : goal.returns
returns c = c.is_ok.ensures.value ∙ control_kept _ _ _ _ c.in-Ok.ensures c.if-a-row.false _ _ c.keep.ensures

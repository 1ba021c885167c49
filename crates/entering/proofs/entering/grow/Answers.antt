-- `grow` meets its contract.
use Rattle.entering.proofs.EnterCode.{grow_written}
use Rattle.entering.proofs.entering.grow.Goals as goal

pub returns : goal.returns
returns c = grow_written _ _ _ _ _ _ _ _ _ _ c.copy_slot.ensures c.set_control.ensures

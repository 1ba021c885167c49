-- `copy_slot` meets its contract.
use mathlib.Core.Path.{refl}
use Rattle.writing.specs.Slots.{headed}
use Rattle.writing.proofs.SlotCode.{copy_written}
use Rattle.writing.proofs.slots.copy_slot.Goals as goal

pub returns : goal.returns
unfolding headed
returns c = copy_written _ _ _ _ _ _ _ _ _ _ c.requires refl c.fill.ensures c.fill-2.ensures

-- `drop_name` meets its contract.
use mathlib.Core.Path.{refl}
use Rattle.writing.proofs.SlotCode.{gap_written}
use Rattle.writing.proofs.slots.drop_name.Goals as goal

pub returns : goal.returns
returns c = gap_written _ _ _ _ _ _ c.requires.0 c.requires.1 refl c.fill.ensures c.fill-2.ensures

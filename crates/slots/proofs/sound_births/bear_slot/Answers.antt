-- `bear_slot` meets its contract.
use native.Mathlib.Omega.{arith}
use Rattle.slots.proofs.SoundTestBirths.{slot_bears, slot_bears_not}
use Rattle.slots.proofs.sound_births.bear_slot.Goals as goal

pub overflow_cast-slot : goal.overflow_cast-slot
overflow_cast-slot c = omega (arith, c.type_inv.slot 2)

pub returns-then-slot-eq-SPAWN : goal.returns-then-slot-eq-SPAWN
returns-then-slot-eq-SPAWN c = search slot_bears

pub returns : goal.returns
returns c = search slot_bears_not

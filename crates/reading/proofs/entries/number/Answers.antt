-- `number` meets its contract.
use Rattle.reading.proofs.StateReads.{entry_is_place, entry_index, entry_low, head_of, number_out}
use native.Mathlib.Omega.{arith}
use Rattle.reading.proofs.entries.number.Goals as goal

pub overflow_add-i : goal.overflow_add-i
overflow_add-i c = omega (arith, entry_low _ _ _ c.requires.1 c.requires.0)

pub slot-requires : goal.slot-requires
slot-requires c = (c.requires.0, entry_is_place _ _ _ c.requires.1, entry_index _ _ _ c.requires.1)

pub bounds-slot-2 : goal.bounds-slot-2
bounds-slot-2 c = omega (arith, head_of _ c.requires.0 _ _ _ c.slot.ensures)

pub returns : goal.returns
returns c = number_out _ _ _ _ c.slot.ensures

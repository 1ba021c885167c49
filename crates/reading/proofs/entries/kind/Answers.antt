-- `kind` meets its contract.
use Rattle.reading.proofs.StateReads.{entry_is_place, entry_index, entry_low, head_of, kind_out}
use Rattle.reading.proofs.KindReads.{kind_read}
use native.Mathlib.Omega.{arith}
use Rattle.reading.proofs.entries.kind.Goals as goal

pub overflow_add-i : goal.overflow_add-i
overflow_add-i c = omega (arith, entry_low _ _ _ c.requires.1 c.requires.0)

pub slot-requires : goal.slot-requires
slot-requires c = (c.requires.0, entry_is_place _ _ _ c.requires.1, entry_index _ _ _ c.requires.1)

pub bounds-slot-0 : goal.bounds-slot-0
bounds-slot-0 c = omega (arith, head_of _ c.requires.0 _ _ _ c.slot.ensures)

pub returns : goal.returns
returns c = kind_read _ _ _ _ _ (kind_out _ _ _ _ c.slot.ensures) c.kind_of.ensures

-- `Sizes::within` meets its contract.
use native.Mathlib.Omega.{arith}
use Rattle.store.proofs.SoundStates.{sizes_in_lem}
use Rattle.store.proofs.LayoutLaws.{names_most, slot_most, block_most}
use Rattle.store.proofs.sizes.Sizes.within.Goals as goal

pub overflow_mul-slot : goal.overflow_mul-slot
overflow_mul-slot c = omega (arith, names_most _ c.requires)

pub overflow_add-slot : goal.overflow_add-slot
overflow_add-slot c = omega (arith, slot_most _ c.requires)

pub overflow_add-slot-2 : goal.overflow_add-slot-2
overflow_add-slot-2 c = omega (arith, slot_most _ c.requires)

pub overflow_add-block : goal.overflow_add-block
overflow_add-block c = omega (arith, (sizes_in_lem _ c.requires).entries_high)

pub overflow_mul-block : goal.overflow_mul-block
overflow_mul-block c = omega (arith, block_most _ c.requires)

-- `soundness::sound::sound_blocks` meets its contract.
use native.Mathlib.Omega.{arith}
use Rattle.store.specs.Sized.{as_sizes}
use Rattle.soundness.proofs.WholeLaws.{lent_long, lent_whole, store_tested}
use Rattle.soundness.proofs.sound.sound_blocks.Goals as goal

pub at_head-sizes-requires : goal.at_head-sizes-requires
at_head-sizes-requires c = (omega (arith, c.requires.long), c.requires.sizes_pass)

pub sound_slots-requires : goal.sound_slots-requires
sound_slots-requires c =
    let s = c.at_head-sizes.result in
    let e = c.at_head-sizes.ensures in
    let ea = c.needed-all.ensures in
    (lent_long _ c.requires (as_sizes s) e _ _ _ s.slot_is s.block_is ea, lent_whole _ c.requires (as_sizes s) e _ _ _ s.slot_is s.block_is ea)

pub returns : goal.returns
returns c =
    let s = c.at_head-sizes.result in
    store_tested _ c.requires (as_sizes s) c.at_head-sizes.ensures _ _ _ s.slot_is s.block_is c.needed-all.ensures _ _ c.sound_slots.ensures

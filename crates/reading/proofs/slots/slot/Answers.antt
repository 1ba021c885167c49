-- `slot` meets its contract.
use Prim.Native.Nat.{◌+◌, ◌*◌}
use mathlib.Core.Path.{◌≡◌, ◌∙◌, ap}
use native.Mathlib.Omega.{arith}
use Rattle.rules.specs.State.{Sizes}
use Rattle.store.specs.Layout.{blocks_from, slot_size, block_size}
use Rattle.reading.proofs.Holding.{head_in, good_read, place_read, index_read, sizes_read, slot_in, slot_low, slot_is}
use Rattle.reading.proofs.slots.slot.Goals as goal
use Rattle.reading.proofs.slots.slot.Goals.{After-slot_start-at}

-- where the slot stands, by the sizes that the store says
starts : (c : After-slot_start-at) → c.slot_start-at.result ≡ blocks_from + c.args.p * block_size (sizes_read c.args.store.now) + c.args.i * slot_size (sizes_read c.args.store.now)
starts c = c.slot_start-at.ensures ∙ ap (λ (y : Sizes). blocks_from + c.args.p * block_size y + c.args.i * slot_size y) c.at_head-sizes.ensures

long : (c : After-slot_start-at) → c.at_head-sizes.result.slot ≡ slot_size (sizes_read c.args.store.now)
long c = c.at_head-sizes.result.slot_is ∙ ap slot_size c.at_head-sizes.ensures

pub at_head-sizes-requires : goal.at_head-sizes-requires
at_head-sizes-requires c = (omega (arith, head_in _ c.requires.0), good_read _ c.requires.0)

pub slot_start-at-requires : goal.slot_start-at-requires
slot_start-at-requires c =
    let e = c.at_head-sizes.ensures in
    (omega (arith, place_read _ c.requires.0 c.requires.1, ap (λ (y : Sizes). y.places) e), omega (arith, index_read _ c.requires.0 c.requires.2, ap (λ (y : Sizes). y.entries) e))

pub overflow_add-result : goal.overflow_add-result
overflow_add-result c = let at = (goal.at.overflow_add-result c).After-slot_start-at in omega (arith, slot_low _ c.requires.0 _ _ _ _ c.requires.1 c.requires.2 (starts at) (long at))

pub offset_bounds-store-at : goal.offset_bounds-store-at
offset_bounds-store-at c = let at = (goal.at.offset_bounds-store-at c).After-slot_start-at in omega (arith, slot_low _ c.requires.0 _ _ _ _ c.requires.1 c.requires.2 (starts at) (long at))

pub slice_bounds-result-end : goal.slice_bounds-result-end
slice_bounds-result-end c = let at = (goal.at.slice_bounds-result-end c).After-slot_start-at in omega (arith, slot_in _ c.requires.0 _ _ _ _ c.requires.1 c.requires.2 (starts at) (long at))

pub returns : goal.returns
returns c = let at = (goal.at.returns c).After-slot_start-at in slot_is _ c.requires.0 _ _ _ _ c.requires.1 c.requires.2 (starts at) (long at)

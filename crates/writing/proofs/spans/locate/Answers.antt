-- `locate` meets its contract.
use Prim.Native.Nat.{◌+◌, ◌*◌}
use mathlib.Core.Path.{◌≡◌, ◌∙◌, ap}
use native.Mathlib.Omega.{arith}
use lib.ListN.{get_or}
use Rattle.rules.specs.State.{Sizes}
use Rattle.store.specs.Layout.{blocks_from, slot_size, block_size}
use Rattle.reading.proofs.Holding.{head_in, good_read, place_read, index_read, sizes_read, slot_low}
use Rattle.writing.proofs.SpanLaws.{located}
use Rattle.writing.proofs.spans.locate.Goals as goal
use Rattle.writing.proofs.spans.locate.Goals.{After-slot_start-from}

-- where the slot stands, by the sizes that the store says
starts : (c : After-slot_start-from) → c.slot_start-from.result ≡ blocks_from + c.args.p * block_size (sizes_read c.args.store.now) + c.args.i * slot_size (sizes_read c.args.store.now)
starts c = c.slot_start-from.ensures ∙ ap (λ (y : Sizes). blocks_from + c.args.p * block_size y + c.args.i * slot_size y) c.at_head-sizes.ensures

long : (c : After-slot_start-from) → c.at_head-sizes.result.slot ≡ slot_size (sizes_read c.args.store.now)
long c = c.at_head-sizes.result.slot_is ∙ ap slot_size c.at_head-sizes.ensures

room : (c : After-slot_start-from) → c.at_head-sizes.result.words ≡ get_or c.args.store.now 2 0
room c = ap (λ (y : Sizes). y.words) c.at_head-sizes.ensures

pub at_head-sizes-requires : goal.at_head-sizes-requires
at_head-sizes-requires c = (omega (arith, head_in _ c.requires.0), good_read _ c.requires.0)

pub slot_start-from-requires : goal.slot_start-from-requires
slot_start-from-requires c =
    let e = c.at_head-sizes.ensures in
    (omega (arith, place_read _ c.requires.0 c.requires.1, ap (λ (y : Sizes). y.places) e), omega (arith, index_read _ c.requires.0 c.requires.2, ap (λ (y : Sizes). y.entries) e))

pub overflow_add-result : goal.overflow_add-result
overflow_add-result c = let at = (goal.at.overflow_add-result c).After-slot_start-from in omega (arith, slot_low _ c.requires.0 _ _ _ _ c.requires.1 c.requires.2 (starts at) (long at))

pub returns : goal.returns
returns c = let at = (goal.at.returns c).After-slot_start-from in located _ c.requires.0 _ _ _ _ _ c.requires.1 c.requires.2 (starts at) (long at) (room at)

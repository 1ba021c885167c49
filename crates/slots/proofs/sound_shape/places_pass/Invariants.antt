-- `places_pass` meets its contract.
use mathlib.Core.Path.{◌≡◌}
use Rattle.lists.proofs.Blocks.{chop}
use Rattle.slots.specs.SoundTests.{ControlBlock, every_of, place_passes}
use Rattle.slots.proofs.Chunks.{Going}
use Rattle.slots.proofs.sound_shape.places_pass.Given as goal

abbrev pub invariant-loop-block : goal.invariant-loop-block
invariant-loop-block l =
    let sizes = l.fn.sizes in
    let test = every_of (place_passes sizes.slot sizes.entries l.places l.arities) in
    Going sizes.block (ControlBlock sizes.slot sizes.entries) (λ blocks. test (chop sizes.places sizes.block l.blocks) ≡ test blocks) l.block-iterator

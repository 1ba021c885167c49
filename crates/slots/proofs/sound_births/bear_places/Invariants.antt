-- `bear_places` meets its contract.
use mathlib.Core.Path.{◌≡◌}
use lib.ListN.{length}
use Rattle.lists.proofs.Blocks.{chop}
use Rattle.slots.specs.SoundTests.{Block, run_all, bear_place}
use Rattle.slots.proofs.Chunks.{Going}
use Rattle.slots.proofs.sound_births.bear_places.Given as goal

abbrev pub invariant-loop-block : goal.invariant-loop-block
invariant-loop-block l =
    let bear = run_all (bear_place l.sizes.slot l.sizes.entries l.live) in
    (length l.born ≡ length l.initial.born)
    × Going l.sizes.block (Block 0 l.sizes.slot l.sizes.entries) (λ blocks. bear (chop l.sizes.places l.sizes.block l.blocks) l.initial.born ≡ bear blocks l.born) l.block-iterator

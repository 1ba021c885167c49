-- `flows` meets its contract.
use mathlib.Core.Path.{◌≡◌}
use Rattle.lists.proofs.Blocks.{chop}
use Rattle.slots.specs.SoundTests.{Block, every_of}
use Rattle.slots.proofs.Chunks.{Going}
use Rattle.soundness.specs.MessageTests.{place_flows}
use Rattle.soundness.proofs.flows.flows.Given as goal

abbrev pub invariant-loop-block : goal.invariant-loop-block
invariant-loop-block l =
    let test = every_of (place_flows l.sizes.words l.sizes.slot l.sizes.entries) in
    Going l.sizes.block (Block l.sizes.words l.sizes.slot l.sizes.entries) (λ blocks. test (chop l.sizes.places l.sizes.block l.blocks) ≡ test blocks) l.block-iterator

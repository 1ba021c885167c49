-- `note_places` meets its contract.
use Prim.Native.Nat.{◌+◌, ◌*◌}
use mathlib.Core.Path.{◌≡◌}
use lib.ListN.{length}
use Rattle.lists.proofs.Blocks.{chop}
use Rattle.slots.specs.SoundTests.{ControlBlock}
use Rattle.slots.proofs.Chunks.{Going}
use Rattle.slots.proofs.SendTest.{NotingFrom}
use Rattle.slots.proofs.sound_sends.note_places.Given as goal

abbrev pub invariant-loop-block : goal.invariant-loop-block
invariant-loop-block l =
    let sizes = l.sizes in
    (length l.targets ≡ length l.initial.targets)
    × Going sizes.block (ControlBlock sizes.slot sizes.entries) (λ blocks. (l.at + length blocks * sizes.entries ≡ sizes.places * sizes.entries)
    × NotingFrom l.live sizes.slot sizes.entries (chop sizes.places sizes.block l.blocks) l.initial.targets l.at l.targets blocks) l.block-iterator

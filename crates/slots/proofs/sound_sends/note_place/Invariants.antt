-- `note_place` meets its contract.
use Prim.Native.Nat.{◌+◌, ◌≤◌}
use mathlib.Core.Path.{◌≡◌}
use lib.ListN.{length}
use Rattle.slots.specs.SoundTests.{ControlFits}
use Rattle.slots.specs.SendTests.{entry_slots}
use Rattle.slots.proofs.Chunks.{Going}
use Rattle.slots.proofs.SendTest.{Noting}
use Rattle.slots.proofs.sound_sends.note_place.Given as goal

abbrev pub invariant-loop-slot : goal.invariant-loop-slot
invariant-loop-slot l =
    let sizes = l.fn.sizes in
    (length l.targets ≡ length l.initial.targets)
    × Going sizes.slot ControlFits (λ slots. (l.k + length slots ≤ l.at + sizes.entries) × Noting l.live (entry_slots sizes.slot sizes.entries l.block) l.at l.initial.targets l.k l.targets slots) l.slot-iterator

-- `entries_pass` meets its contract.
use mathlib.Core.Path.{◌≡◌}
use Rattle.slots.specs.SoundTests.{ControlFits, every_of, entry_passes, entries_pass}
use Rattle.slots.proofs.Chunks.{Going}
use Rattle.slots.proofs.sound_shape.entries_pass.Given as goal

abbrev pub invariant-loop-slot : goal.invariant-loop-slot
invariant-loop-slot l =
    Going l.fn.sizes.slot ControlFits (λ slots. entries_pass l.fn.sizes.slot l.fn.sizes.entries l.places l.arities l.block ≡ every_of (entry_passes l.places l.arities) slots) l.slot-iterator

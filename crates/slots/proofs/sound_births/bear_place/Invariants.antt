-- `bear_place` meets its contract.
use mathlib.Core.Path.{◌≡◌}
use lib.ListN.{length}
use Rattle.slots.specs.SoundTests.{NamesFit, run_all, bear_slot, bear_place}
use Rattle.slots.proofs.Chunks.{Going}
use Rattle.slots.proofs.sound_births.bear_place.Given as goal

abbrev pub invariant-loop-slot : goal.invariant-loop-slot
invariant-loop-slot l =
    (length l.born ≡ length l.initial.born)
    × Going l.fn.sizes.slot (NamesFit 0) (λ slots. bear_place l.fn.sizes.slot l.fn.sizes.entries l.live l.block l.initial.born ≡ run_all (bear_slot l.live) slots l.born) l.slot-iterator

-- `arrive_taken` meets its contract.
use mathlib.Core.Path.{◌≡◌}
use lib.ListN.{length}
use Rattle.slots.specs.SoundTests.{run_all}
use Rattle.slots.proofs.Chunks.{Going}
use Rattle.soundness.specs.MessageTests.{TakenFits, arrive_slot, arrive_taken}
use Rattle.soundness.proofs.messages.arrive_taken.Given as goal

abbrev pub invariant-loop-slot : goal.invariant-loop-slot
invariant-loop-slot l =
    let s = l.sizes in
    (length l.targets ≡ length l.initial.targets)
    × Going s.slot (TakenFits s.words) (λ slots. arrive_taken s.words s.slot s.entries s.places s.entries l.place l.block l.initial.targets ≡ run_all (arrive_slot s.words s.places s.entries l.place) slots l.targets) l.slot-iterator

-- `arrive_all` meets its contract.
use mathlib.Core.Path.{◌≡◌}
use lib.ListN.{length, drop}
use Rattle.slots.specs.SoundTests.{run_all}
use Rattle.soundness.specs.MessageTests.{arrive_one, arrive_all}
use Rattle.soundness.proofs.messages.arrive_all.Given as goal

abbrev pub invariant-loop-name : goal.invariant-loop-name
invariant-loop-name l =
    (length l.targets ≡ length l.initial.targets)
    × (arrive_all l.sizes.places l.sizes.entries l.place l.names l.initial.targets ≡ run_all (arrive_one l.sizes.places l.sizes.entries l.place) (drop l.name-index l.names) l.targets)

-- `place_flows` meets its contract.
use mathlib.Core.Path.{◌≡◌}
use mathlib.Core.List.{[]}
use lib.ListN.{drop}
use Rattle.lists.proofs.Blocks.{chop}
use Rattle.slots.specs.SoundTests.{NamesFit, names_in}
use Rattle.slots.proofs.Chunks.{Going}
use Rattle.soundness.specs.MessageTests.{flows_on}
use Rattle.soundness.proofs.flows.place_flows.Given as goal

abbrev pub invariant-loop-slot : goal.invariant-loop-slot
invariant-loop-slot l =
    let sizes = l.fn.sizes in
    let present = names_in sizes.words l.block in
    Going sizes.slot (NamesFit sizes.words) (λ slots. flows_on sizes.words 0 [] (chop sizes.entries sizes.slot (drop sizes.slot l.block)) present ≡ flows_on sizes.words l.taken l.before slots present) l.slot-iterator

-- `messages` meets its contract.
use Prim.Native.Nat.{◌+◌}
use mathlib.Core.Path.{◌≡◌}
use lib.ListN.{length}
use Rattle.std.specs.Iterator.Adapters.{enumerate_source, enumerate_count}
use Rattle.lists.proofs.Blocks.{chop}
use Rattle.slots.proofs.Chunks.{Going}
use Rattle.soundness.specs.MessageTests.{TakenBlock, arrive_from}
use Rattle.soundness.proofs.messages.messages.Given as goal

abbrev pub invariant-loop-place : goal.invariant-loop-place
invariant-loop-place l =
    let s = l.sizes in
    let place = enumerate_count l.place-iterator in
    (length l.targets ≡ length l.initial.targets)
    × Going s.block (TakenBlock s.words s.slot s.entries) (λ blocks. (place + length blocks ≡ s.places)
    × (arrive_from s.words s.slot s.entries s.places s.entries 0 (chop s.places s.block l.blocks) l.initial.targets ≡ arrive_from s.words s.slot s.entries s.places s.entries place blocks l.targets)) (enumerate_source l.place-iterator)

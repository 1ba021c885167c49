-- `live_places` meets its contract.
use Prim.Native.Nat.{◌+◌}
use mathlib.Core.Path.{◌≡◌}
use mathlib.Core.Bool.{false}
use lib.ListN.{length, replicate}
use Rattle.std.specs.Iterator.Adapters.{enumerate_source, enumerate_count}
use Rattle.lists.proofs.Blocks.{chop}
use Rattle.slots.specs.SoundTests.{live_from}
use Rattle.slots.proofs.Chunks.{Going, Any}
use Rattle.slots.proofs.sound_births.live_places.Given as goal

abbrev pub invariant-loop-p : goal.invariant-loop-p
invariant-loop-p l =
    let sizes = l.fn.sizes in
    let p = enumerate_count l.p-iterator in
    Going sizes.block Any (λ blocks. (p + length blocks ≡ sizes.places) × (length l.live ≡ 16) × (live_from 0 (chop sizes.places sizes.block l.fn.blocks) (replicate 16 false) ≡ live_from p blocks l.live)) (enumerate_source l.p-iterator)

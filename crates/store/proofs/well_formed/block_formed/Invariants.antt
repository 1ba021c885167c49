-- `block_formed` meets its contract.
use lib.ListN.{length}
use Rattle.store.specs.Sized.{as_sizes}
use Rattle.store.proofs.WellTestBlock.{SomeLeft}
use Rattle.store.proofs.well_formed.block_formed.Given as goal

abbrev pub invariant-loop-rest : goal.invariant-loop-rest
invariant-loop-rest l = SomeLeft (as_sizes l.sizes) l.block l.rest

abbrev pub decreases-loop-rest : goal.decreases-loop-rest
decreases-loop-rest l = length l.rest

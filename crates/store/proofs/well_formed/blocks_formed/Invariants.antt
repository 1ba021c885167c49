-- `blocks_formed` meets its contract.
use Prim.Native.Nat.{ℕ, ◌<◌}
use Rattle.store.specs.Sized.{as_sizes}
use Rattle.store.proofs.WellTestStore.{WellAt}
use Rattle.store.proofs.well_formed.blocks_formed.Given as goal

abbrev pub invariant-loop-p : goal.invariant-loop-p
invariant-loop-p l = (q : ℕ) → q < l.p → WellAt (as_sizes l.sizes) l.store q

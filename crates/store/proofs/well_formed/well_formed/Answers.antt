-- `well_formed` meets its contract.
use mathlib.Core.Bool.{not}
use mathlib.Core.Path.{ap}
use Rattle.store.specs.Sized.{as_sizes}
use Rattle.store.proofs.WellTestStore.{store_zeros, store_left}
use Rattle.store.proofs.well_formed.well_formed.Goals as goal

pub returns-then-not-zeros : goal.returns-then-not-zeros
returns-then-not-zeros c = store_zeros c.args.store.now _ c.if-length-gt-LONGEST.false c.zeros.ensures (ap not c.if-not-zeros.true)

pub returns : goal.returns
returns c =
    let sizes = c.in-Some.sizes in
    store_left c.args.store.now _ _ (as_sizes sizes) _ c.in-Some.ensures sizes.good c.needed.ensures c.if-store-needed.false c.if-length-gt-LONGEST.false c.zeros.ensures (ap not c.if-not-zeros.false) c.blocks_formed.ensures

-- The sizes that the code holds, as those of the rules.
use Rattle.rules.specs.State.{Sizes}
use Rattle.store.specs.Sizing.{sizes_of}
use Rattle.store.specs.declared.sizes.Sizes.{Sizes as Held}

abbrev pub as_sizes : Held → Sizes
as_sizes sizes = sizes_of sizes.places sizes.entries sizes.words

use Rattle.bench.proofs.Packed.{listing_returns}
use Rattle.bench.proofs.exports.bench_listing.Goals as goal

pub returns : goal.returns
returns c = listing_returns _ _ c.pack.ensures _ _ _ c.listing.ensures

-- A listing that is printed ends within the output that holds it.
use Rattle.scripts.proofs.Ends.{listing_ends}
use Rattle.scripts.proofs.printing.print_listing.Goals as goal

pub print-requires : goal.print-requires
print-requires g c = listing_ends _ _ _ _ _ c.listing-a.ensures c.in-Ok.is c.listing-a.auto.out

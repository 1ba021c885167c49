-- `write_listing` meets its contract.
use Rattle.rules.specs.Text.{line, bytes}
use Rattle.text.specs.Lines.{processes_line}
use Rattle.listing.proofs.ListingLaws.{whole_listing}
use Rattle.listing.proofs.listing.write_listing.Goals as goal

pub returns : goal.returns
unfolding processes_line line bytes
returns c = whole_listing _ _ _ _ _ _ _ _ _ c.pool_count-count.ensures c.write_number_line-to.ensures c.write_places-next.ensures c.write_flight.ensures

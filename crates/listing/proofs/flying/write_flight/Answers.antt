-- `write_flight` meets its contract.
use mathlib.Core.Path.{refl}
use Rattle.rules.specs.Text.{bytes}
use Rattle.listing.proofs.FlightLaws.{flight_line}
use Rattle.listing.proofs.flying.write_flight.Goals as goal

pub returns : goal.returns
unfolding bytes
returns c = flight_line _ _ _ _ _ _ _ _ _ c.write_bytes-to.ensures refl c.write_senders-row.ensures c.write_line_feed.ensures

-- `write_places` meets its contract.
use borrow.Author.Rules.{rules}
use native.Mathlib.Omega.{arith}
use Rattle.reading.proofs.FlightReads.{end_place}
use Rattle.listing.proofs.ProcessLaws.{places_none, places_more, places_all}
use Rattle.listing.proofs.processes.write_places.Goals as goal

pub loop-p-init : goal.loop-p-init
loop-p-init c = (search rules, places_none _ _ _ _ (search rules) (search rules))

pub write_place-to-requires : goal.write_place-to-requires
write_place-to-requires c = (search rules, end_place _ _ _ c.places-p-end.ensures (search rules))

pub loop-p-preserved : goal.loop-p-preserved
loop-p-preserved c = (search rules, places_more _ _ _ _ _ _ _ _ c.loop-p.invariant.1 c.write_place-to.ensures)

pub returns : goal.returns
returns c = places_all _ _ _ _ _ _ _ c.places-p-end.ensures (omega arith) c.loop-p.invariant.1

-- `write_senders` meets its contract.
use borrow.Author.Rules.{rules}
use mathlib.Core.Path.{refl}
use native.Mathlib.Omega.{arith}
use Rattle.reading.proofs.FlightReads.{end_place}
use Rattle.listing.proofs.FlightLaws.{senders_none, senders_more, senders_all}
use Rattle.listing.proofs.flying.write_senders.Goals as goal

pub loop-s-init : goal.loop-s-init
loop-s-init c = (search rules, senders_none _ _ _ _ c.past.ensures (search rules))

pub write_sender-reached-requires : goal.write_sender-reached-requires
write_sender-reached-requires c = (search rules, end_place _ _ _ c.places-s-end.ensures (search rules))

pub loop-s-preserved : goal.loop-s-preserved
loop-s-preserved c = (search rules, senders_more _ _ _ _ _ _ _ _ c.loop-s.invariant.1 c.write_sender-reached.ensures)

pub returns : goal.returns
returns c = senders_all _ _ _ _ _ _ _ _ c.places-s-end.ensures (omega arith) c.past.ensures refl (search rules) c.loop-s.invariant.1

-- `links::arrivals::arrival` meets its contract.
use Rattle.links.proofs.ArrivalReads.{LeftIs, Unshown}
use Rattle.links.proofs.arrivals.arrival.Given as goal

abbrev pub invariant-loop-i : goal.invariant-loop-i
invariant-loop-i l = LeftIs l.store l.q l.i l.left × Unshown l.store l.q l.i l.name

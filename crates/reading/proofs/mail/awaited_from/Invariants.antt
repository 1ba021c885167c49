-- `awaited_from` meets its contract.
use Rattle.reading.proofs.FlightReads.{NameAt, Quiet}
use Rattle.reading.proofs.mail.awaited_from.Given as goal

abbrev pub invariant-loop-i : goal.invariant-loop-i
invariant-loop-i l = NameAt l.store l.s l.i l.name × Quiet l.store l.s l.q l.i

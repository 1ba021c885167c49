-- `pick` meets its contract.
use Rattle.reading.specs.Reads.{OfState}
use Rattle.making.proofs.Picks.{Walked}
use Rattle.making.proofs.picking.pick.Given as goal

abbrev pub invariant-loop-i : goal.invariant-loop-i
invariant-loop-i l = OfState l.store (Walked l.p l.i l.initial.out l.out)

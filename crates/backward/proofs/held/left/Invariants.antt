-- `left` meets its contract.
use Rattle.reading.specs.Reads.{OfState}
use Rattle.backward.proofs.LeftLaws.{NoRecFrom}
use Rattle.backward.proofs.held.left.Given as goal

abbrev pub invariant-loop-i : goal.invariant-loop-i
invariant-loop-i l = OfState l.store (NoRecFrom l.p l.i)

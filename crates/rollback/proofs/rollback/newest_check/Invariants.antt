-- `rollback::rollback::newest_check` meets its contract.
use Rattle.reading.specs.Reads.{OfState}
use Rattle.rollback.proofs.RollbackCalls.{Unfound}
use Rattle.rollback.proofs.rollback.newest_check.Given as goal

abbrev pub invariant-loop-i : goal.invariant-loop-i
invariant-loop-i l = OfState l.store (Unfound l.p l.t l.i)

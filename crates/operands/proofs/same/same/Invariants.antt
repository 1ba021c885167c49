-- `same` meets its contract.
use Prim.Native.Nat.{◌-◌}
use lib.ListN.{length}
use Rattle.operands.proofs.RowSame.{Goes}
use Rattle.operands.proofs.same.same.Given as goal

abbrev pub invariant-loop-left : goal.invariant-loop-left
invariant-loop-left l = Goes l.a l.i l.b l.j l.pending l.x l.y l.left

abbrev pub decreases-loop-left : goal.decreases-loop-left
decreases-loop-left l = length l.a - l.x

-- `shape::shape::read_alike` meets its contract.
use Prim.Native.Nat.{◌-◌}
use lib.ListN.{length}
use Rattle.shape.specs.Reading.{Comes}
use Rattle.shape.proofs.shape.read_alike.Given as goal

abbrev pub invariant-loop-left : goal.invariant-loop-left
invariant-loop-left l = Comes l.places l.row l.at l.spot l.times l.a l.left

abbrev pub decreases-loop-left : goal.decreases-loop-left
decreases-loop-left l = length l.row - l.a

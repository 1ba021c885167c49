-- `shape::shape::read` meets its contract.
use lib.ListN.{length}
use Prim.Native.Nat.{◌-◌}
use Rattle.shape.proofs.shape.+read.Given as goal

abbrev pub decreases-read : goal.decreases-read
decreases-read l = length l.row.now - l.at

-- `past_values` meets its contract.
use Prim.Native.Nat.{◌-◌}
use lib.ListN.{length}
use Rattle.copying.proofs.RowPlace.{Seeks}
use Rattle.copying.proofs.place.past_values.Given as goal

abbrev pub invariant-loop-left : goal.invariant-loop-left
invariant-loop-left l = Seeks l.src l.at l.pending l.x l.left

abbrev pub decreases-loop-left : goal.decreases-loop-left
decreases-loop-left l = length l.src - l.x

-- `find` meets its contract.
use Prim.Native.Nat.{◌-◌}
use lib.ListN.{length}
use Rattle.copying.proofs.place.+find.Given as goal

abbrev pub decreases-find : goal.decreases-find
decreases-find l = length l.src.now - l.at

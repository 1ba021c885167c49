-- `guard` meets its contract.
use Prim.Native.Nat.{◌-◌}
use lib.ListN.{length}
use Rattle.operands.proofs.guard.+guard.Given as goal

abbrev pub decreases-guard : goal.decreases-guard
decreases-guard l = length l.c.now - l.at

-- `checks::module::keep_functions` meets its contract.
use Prim.Native.Nat.{◌-◌}
use lib.ListN.{length}
use Rattle.checks.proofs.RuleLaws.{Going}
use Rattle.checks.proofs.module.keep_functions.Given as goal

abbrev pub invariant-loop-at : goal.invariant-loop-at
invariant-loop-at l = Going l.row l.arities l.at l.checks

abbrev pub decreases-loop-at : goal.decreases-loop-at
decreases-loop-at l = length l.row - l.at

-- `checks::module::read_functions` meets its contract.
use Prim.Native.Nat.{◌≤◌, ◌-◌}
use mathlib.Core.Path.{◌≡◌}
use lib.ListN.{length}
use Rattle.checks.proofs.FunctionLaws.{SoFar}
use Rattle.checks.proofs.module.read_functions.Given as goal

abbrev pub invariant-loop-at : goal.invariant-loop-at
invariant-loop-at l = (length l.counts ≡ length l.initial.counts) × (l.number ≤ length l.counts) × SoFar l.row l.counts l.at l.number

abbrev pub decreases-loop-at : goal.decreases-loop-at
decreases-loop-at l = length l.row - l.at

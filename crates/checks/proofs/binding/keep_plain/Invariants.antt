-- `checks::binding::keep_plain` meets its contract.
use Prim.Native.Nat.{◌-◌}
use lib.ListN.{length}
use Rattle.checks.specs.Walking.{Gets}
use Rattle.checks.proofs.binding.keep_plain.Given as goal

abbrev pub invariant-loop-left : goal.invariant-loop-left
invariant-loop-left l = Gets l.subject.row.now l.initial.a l.initial.left l.scope l.subject.arities.now l.subject.unique l.initial.checks l.a l.left l.checks

abbrev pub decreases-loop-left : goal.decreases-loop-left
decreases-loop-left l = length l.row - l.a

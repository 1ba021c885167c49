-- `cuts::cut::lowered` meets its contract.
use Rattle.cuts.specs.Links.{sum_of}
use Rattle.cuts.proofs.LowerLaws.{Settling}
use Rattle.cuts.proofs.cut.lowered.Given as goal

abbrev pub invariant-loop-y : goal.invariant-loop-y
invariant-loop-y l = Settling l.links l.initial.cut l.cut l.left

abbrev pub decreases-loop-y : goal.decreases-loop-y
decreases-loop-y l = sum_of l.left

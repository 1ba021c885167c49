-- `cuts::cut::lower_on` meets its contract.
use Rattle.std.proofs.Common.{length}
use Prim.Native.Nat.{◌-◌}
use Rattle.cuts.proofs.LowerLaws.{LoweringOn}
use Rattle.cuts.proofs.cut.lower_on.Given as goal

abbrev pub invariant-loop-k : goal.invariant-loop-k
invariant-loop-k l = LoweringOn l.links l.index l.fn.event.line l.fn.event.index l.initial.cut l.cut l.k

abbrev pub decreases-loop-k : goal.decreases-loop-k
decreases-loop-k l = length l.links - l.k

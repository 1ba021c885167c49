-- `cuts::search::blocked` meets its contract.
use Rattle.std.proofs.Common.{length}
use Prim.Native.Nat.{◌-◌}
use Rattle.cuts.proofs.LinkTests.{Ahead}
use Rattle.cuts.proofs.search.blocked.Given as goal

abbrev pub invariant-loop-k : goal.invariant-loop-k
invariant-loop-k l = Ahead l.links l.index l.on.line l.on.index l.level l.k

abbrev pub decreases-loop-k : goal.decreases-loop-k
decreases-loop-k l = length l.links - l.k

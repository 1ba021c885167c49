-- `cuts::search::drop_gone` meets its contract.
use Rattle.std.proofs.Common.{length}
use Rattle.std.proofs.Common.{◌-◌, ◌≡◌, get_or}
use Rattle.cuts.specs.Chains.{Waiting}
use Rattle.cuts.proofs.search.drop_gone.Given as goal

abbrev pub invariant-loop-k : goal.invariant-loop-k
invariant-loop-k l = (l.k ≡ get_or l.index l.s 0) × Waiting l.links l.level l.index

abbrev pub decreases-loop-k : goal.decreases-loop-k
decreases-loop-k l = length l.links - l.k

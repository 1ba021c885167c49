-- `cuts::search::descend` meets its contract.
use Prim.Native.Nat.{◌+◌}
use mathlib.Core.Path.{◌≡◌}
use lib.ListN.{length}
use Rattle.cuts.specs.Bounds.{line_count}
use Rattle.cuts.specs.Links.{sum_of}
use Rattle.cuts.specs.Chains.{Waiting}
use Rattle.cuts.proofs.LinkSearch.{Sought}
use Rattle.cuts.proofs.search.descend.Given as goal

abbrev pub invariant-loop-x : goal.invariant-loop-x
invariant-loop-x l =
    (length l.level ≡ line_count) × (l.n + sum_of l.level ≡ sum_of l.levels) × Sought l.links l.cut l.levels l.level l.n × Waiting l.links l.level l.index

abbrev pub decreases-loop-x : goal.decreases-loop-x
decreases-loop-x l = sum_of l.level

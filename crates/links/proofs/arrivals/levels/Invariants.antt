-- `links::arrivals::levels` meets its contract.
use Rattle.std.proofs.Common.{◌≤◌}
use Rattle.cuts.specs.Bounds.{most_places}
use Rattle.links.proofs.LinkWhole.{Filled}
use Rattle.links.proofs.arrivals.levels.Given as goal

abbrev pub invariant-loop-p : goal.invariant-loop-p
invariant-loop-p l = (l.p-end ≤ most_places) × Filled l.store l.p l.levels

-- `cuts::search::next_line` meets its contract.
use Rattle.std.proofs.Common.{ℕ, ◌<◌}
use Rattle.cuts.specs.Chains.{Waiting}
use Rattle.cuts.specs.Going.{Free}
use Rattle.cuts.proofs.search.next_line.Given as goal

abbrev pub invariant-loop-x : goal.invariant-loop-x
invariant-loop-x l = ((j : ℕ) → j < l.x → ¬ Free l.links l.cut l.level j) × Waiting l.links l.level l.index

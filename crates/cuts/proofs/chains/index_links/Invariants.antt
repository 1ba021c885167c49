-- `cuts::chains::index_links` meets its contract.
use Rattle.cuts.specs.Chains.{Indexed}
use Rattle.cuts.proofs.chains.index_links.Given as goal

abbrev pub invariant-loop-k : goal.invariant-loop-k
invariant-loop-k l = Indexed l.links l.k l.index

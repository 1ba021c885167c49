-- `count_of` meets its contract.
use Rattle.std.proofs.Common.{◌≤◌}
use Rattle.reading.proofs.KindReads.{Counted}
use Rattle.reading.proofs.entries.count_of.Given as goal

abbrev pub invariant-loop-j : goal.invariant-loop-j
invariant-loop-j l = (l.count ≤ l.j) × Counted l.store l.p l.wanted l.j l.count

-- What is kept of a line lies within it.
use Rattle.std.proofs.Common.{length, ◌≤◌}
use Rattle.input.proofs.stream.read_all.Given as goal

abbrev pub invariant-loop : goal.invariant-loop
invariant-loop g l = l.count ≤ length l.fn.line

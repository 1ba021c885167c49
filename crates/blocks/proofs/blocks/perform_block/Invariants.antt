-- What is kept of a line lies within it, and the bytes so far are gathered.
use Rattle.std.proofs.Common.{length, take, ◌≤◌}
use Rattle.blocks.specs.Left.{Gathers}
use Rattle.blocks.proofs.blocks.perform_block.Given as goal

abbrev pub invariant-loop-b : goal.invariant-loop-b
invariant-loop-b g l = (l.n ≤ length l.fn.line) × Gathers l.initial.line l.count (take l.b-index l.block) l.line l.n

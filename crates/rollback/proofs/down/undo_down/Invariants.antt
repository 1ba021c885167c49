-- `rollback::down::undo_down` meets its contract.
use mathlib.Core.Path.{◌≡◌}
use lib.ListN.{length}
use Rattle.cuts.specs.Bounds.{line_count}
use Rattle.cuts.specs.Links.{sum_of}
use Rattle.cuts.specs.Chains.{Waiting}
use Rattle.rollback.proofs.LinkDown.{Undoing}
use Rattle.rollback.proofs.down.undo_down.Given as goal

abbrev pub invariant-loop-x : goal.invariant-loop-x
invariant-loop-x l =
    (length l.level ≡ line_count) × (length l.store ≡ length l.initial.store) × Undoing l.initial.store l.links l.cut l.levels l.store l.level × Waiting l.links l.level l.index

abbrev pub decreases-loop-x : goal.decreases-loop-x
decreases-loop-x l = sum_of l.level

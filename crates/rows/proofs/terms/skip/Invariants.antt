-- `rows::terms::skip` meets its contract.
use Prim.Native.Nat.{◌+◌, ◌-◌}
use mathlib.Core.Path.{◌≡◌}
use lib.ListN.{length, drop}
use Rattle.term.specs.Rows.{passed}
use Rattle.rows.proofs.terms.skip.Given as goal

abbrev pub invariant-loop-left : goal.invariant-loop-left
invariant-loop-left l = l.at + passed (drop l.at l.row) l.owed ≡ l.x + passed (drop l.x l.row) l.left

abbrev pub decreases-loop-left : goal.decreases-loop-left
decreases-loop-left l = length l.row - l.x

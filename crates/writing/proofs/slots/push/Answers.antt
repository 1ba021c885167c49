-- `push` meets its contract.
use native.Mathlib.Omega.{arith}
use lib.ListN.{length-set}
use Rattle.writing.specs.Slots.{pushed}
use borrow.Author.Rules.{rules}
use Rattle.writing.proofs.slots.push.Goals as goal

pub bounds-slot-4-2 : goal.bounds-slot-4-2
bounds-slot-4-2 c = simp length-set (omega arith)

pub returns : goal.returns
unfolding pushed
returns c = search rules

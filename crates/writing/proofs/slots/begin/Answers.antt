-- `begin` meets its contract.
use mathlib.Core.Path.{◌∙◌}
use lib.ListN.{length-set}
use Rattle.writing.specs.Slots.{begun}
use borrow.Author.Rules.{rules}
use Rattle.writing.proofs.slots.begin.Goals as goal

pub shape_of-slot : goal.shape_of-slot
shape_of-slot c = c.set_control.auto.slot ∙ length-set c.args.slot.now 0 7

pub returns : goal.returns
unfolding begun
returns c = search rules

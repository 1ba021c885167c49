-- `entry` meets its contract.
use Rattle.copying.proofs.RowWrite.{entry_not, entry_past, entry_is}
use Rattle.copying.proofs.copy.entry.Goals as goal

pub returns-then-tag-ne-VARIABLE : goal.returns-then-tag-ne-VARIABLE
returns-then-tag-ne-VARIABLE c = search entry_not

pub returns-in_err-after : goal.returns-in_err-after
returns-in_err-after c = search (entry_past, c.in_err-after.ensures.lookup.3)

pub returns : goal.returns
returns c = search (entry_is, c.in_ok-after.ensures.lookup.3.1 0)

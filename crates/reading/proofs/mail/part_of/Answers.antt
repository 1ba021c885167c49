-- `part_of` meets its contract.
use Rattle.reading.proofs.SendReads.{part_none, part_past, part_rest}
use Rattle.reading.proofs.mail.part_of.Goals as goal

pub returns-then-to-from : goal.returns-then-to-from
returns-then-to-from c = part_none _ _ _ c.if-to-from.true

pub returns-then-row-from : goal.returns-then-row-from
returns-then-row-from c = part_past _ _ _ c.if-row-from.true

pub returns-then-row-to : goal.returns-then-row-to
returns-then-row-to c = part_rest _ _ _ c.if-row-to.true

-- `value` meets its contract.
use Rattle.reading.proofs.SendReads.{send_entry, before_short, value_out}
use Rattle.reading.proofs.mail.value.Goals as goal

pub before-c-requires : goal.before-c-requires
before-c-requires c = (c.requires.0, send_entry _ _ _ c.requires.1)

pub sent-part-requires : goal.sent-part-requires
sent-part-requires c = before_short _ _ _ _ c.before-c.ensures c.requires.0 c.requires.1

pub returns : goal.returns
returns c = value_out _ _ _ _ c.before-c.ensures _ c.sent-part.ensures _ c.part_of.ensures

-- `has_come` meets its contract.
use mathlib.Core.Path.{◌∙◌}
use Rattle.reading.proofs.MailReads.{contains_name, come_queue, come_taken}
use Rattle.reading.proofs.mail.has_come.Goals as goal

pub returns-then-contains : goal.returns-then-contains
returns-then-contains c = come_queue _ _ _ _ _ c.queue.ensures (c.contains.ensures.value ∙ contains_name _ _) c.if-contains.true

pub returns-else-contains : goal.returns-else-contains
returns-else-contains c = come_taken _ _ _ _ _ c.queue.ensures (c.contains.ensures.value ∙ contains_name _ _) c.if-contains.false _ c.received.ensures

-- `flies_to` meets its contract.
use Rattle.reading.proofs.FlightReads.{flies_none, flies_other, flies_this}
use Rattle.reading.proofs.MailReads.{here_send}
use Rattle.reading.proofs.mail.flies_to.Goals as goal

pub returns-then-send_at-eq0 : goal.returns-then-send_at-eq0
returns-then-send_at-eq0 c = flies_none _ _ _ _ _ c.send_at.ensures c.if-send_at-eq0.true

pub target-requires : goal.target-requires
target-requires c = (c.requires.0, (here_send _ _ _ _ c.requires.1 c.send_at.ensures c.if-send_at-eq0.false))

pub returns-then-target-q : goal.returns-then-target-q
returns-then-target-q c = flies_this _ _ _ _ _ (here_send _ _ _ _ c.requires.1 c.send_at.ensures c.if-send_at-eq0.false) c.target.ensures c.if-target-q.true _ c.requires.3 _ c.has_come.ensures

pub returns-else-target-q : goal.returns-else-target-q
returns-else-target-q c = flies_other _ _ _ _ _ (here_send _ _ _ _ c.requires.1 c.send_at.ensures c.if-send_at-eq0.false) c.target.ensures c.if-target-q.false

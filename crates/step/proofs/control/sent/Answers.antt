-- `sent` meets its contract.
use Rattle.step.proofs.RowSend.{sent_past, sent_is}
use Rattle.step.proofs.control.sent.Goals as goal

pub returns-in_default : goal.returns-in_default
returns-in_default c = sent_past _ _ c.in_default.ensures

pub returns : goal.returns
returns c = search (sent_is, c.in-Some.ensures.0)

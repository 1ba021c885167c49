-- `send_at` meets its contract.
use mathlib.Core.Path.{refl}
use Rattle.reading.proofs.KindReads.{other_kind}
use Rattle.reading.proofs.MailReads.{send_one, send_other}
use Rattle.reading.proofs.mail.send_at.Goals as goal

pub returns-in-Send : goal.returns-in-Send
returns-in-Send c = send_one _ _ _ _ c.in-Send.ensures refl

pub returns-in_default : goal.returns-in_default
returns-in_default c = send_other _ _ _ _ c.kind.ensures (other_kind c.in_default.not-Send)

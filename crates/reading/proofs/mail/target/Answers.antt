-- `target` meets its contract.
use Rattle.reading.proofs.SendReads.{send_entry, before_short, doing_send, target_out, target_else}
use Rattle.reading.proofs.mail.target.Goals as goal

pub before-requires : goal.before-requires
before-requires c = (c.requires.0, send_entry _ _ _ c.requires.1)

pub about_to-doing-requires : goal.about_to-doing-requires
about_to-doing-requires c = before_short _ _ _ _ c.before-2.ensures c.requires.0 c.requires.1

pub returns-in_default : goal.returns-in_default
returns-in_default c = target_else _ _ _ _ (doing_send _ _ _ _ c.before-2.ensures _ c.about_to-doing.ensures) c.in_default.not-Send

pub returns : goal.returns
returns c = target_out _ _ _ _ _ (doing_send _ _ _ _ c.before-2.ensures _ c.about_to-doing.ensures) c.in-Send.is

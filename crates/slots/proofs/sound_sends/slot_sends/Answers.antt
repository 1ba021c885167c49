-- `slots::sound_sends::slot_sends` meets its contract.
use Rattle.slots.proofs.SendTest.{sent_none, sent_other, sent_outside, sent_dead, sent_live}
use Rattle.slots.proofs.sound_sends.slot_sends.Goals as goal

pub returns-then-slot-ne-SEND : goal.returns-then-slot-ne-SEND
returns-then-slot-ne-SEND c = search sent_none

pub returns-in_default : goal.returns-in_default
returns-in_default c = search (sent_other, c.in_default.not-Send)

pub returns-then-live-place : goal.returns-then-live-place
returns-then-live-place c = search sent_outside

pub returns-then-live-place-2 : goal.returns-then-live-place-2
returns-then-live-place-2 c = search sent_live

pub returns : goal.returns
returns c = search sent_dead

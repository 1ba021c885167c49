-- `entry_shape` meets its contract.
use Rattle.slots.proofs.SoundTestShape.{entry_seq, entry_send, entry_rec, entry_spawn, entry_self, entry_check_over, entry_check, entry_none}
use Rattle.slots.proofs.sound_shape.entry_shape.Goals as goal

pub returns-in-1 : goal.returns-in-1
returns-in-1 c = search entry_seq

pub returns-in-2 : goal.returns-in-2
returns-in-2 c = search entry_send

pub returns-in-3 : goal.returns-in-3
returns-in-3 c = search entry_rec

pub returns-in-4 : goal.returns-in-4
returns-in-4 c = search entry_spawn

pub returns-in-5 : goal.returns-in-5
returns-in-5 c = search entry_self

pub returns-then-slot-le-GREATEST_CHECK : goal.returns-then-slot-le-GREATEST_CHECK
returns-then-slot-le-GREATEST_CHECK c = search entry_check

pub returns-else-slot-le-GREATEST_CHECK : goal.returns-else-slot-le-GREATEST_CHECK
returns-else-slot-le-GREATEST_CHECK c = search entry_check_over

pub returns-in_default : goal.returns-in_default
returns-in_default c = search entry_none

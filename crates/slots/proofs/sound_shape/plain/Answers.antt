-- `plain` meets its contract.
use Rattle.slots.proofs.SoundTestShape.{plain_number, plain_names}
use Rattle.slots.proofs.sound_shape.plain.Goals as goal

pub returns-then-slot-eq0 : goal.returns-then-slot-eq0
returns-then-slot-eq0 c = search plain_names

pub returns-else-slot-eq0 : goal.returns-else-slot-eq0
returns-else-slot-eq0 c = search plain_number

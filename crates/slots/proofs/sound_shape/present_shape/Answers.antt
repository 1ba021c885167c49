-- `present_shape` meets its contract.
use Rattle.slots.proofs.SoundTestShape.{present_kind, present_number}
use Rattle.slots.proofs.sound_shape.present_shape.Goals as goal

pub returns-then-slot-eq-LIVE : goal.returns-then-slot-eq-LIVE
returns-then-slot-eq-LIVE c = search present_number

pub returns-else-slot-eq-LIVE : goal.returns-else-slot-eq-LIVE
returns-else-slot-eq-LIVE c = search present_kind

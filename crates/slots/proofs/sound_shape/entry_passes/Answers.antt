-- `entry_passes` meets its contract.
use Rattle.slots.proofs.SoundTestShape.{passes_free, passes_control, passes_not}
use Rattle.slots.proofs.sound_shape.entry_passes.Goals as goal

pub returns-then-slot-eq-FREE : goal.returns-then-slot-eq-FREE
returns-then-slot-eq-FREE c = search passes_free

pub returns-then-entry_shape : goal.returns-then-entry_shape
returns-then-entry_shape c = search passes_control

pub returns-else-entry_shape : goal.returns-else-entry_shape
returns-else-entry_shape c = search passes_not

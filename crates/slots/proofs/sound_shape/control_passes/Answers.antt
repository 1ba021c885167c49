-- `control_passes` meets its contract.
use Rattle.slots.proofs.SoundTestShape.{control_passes_lem}
use Rattle.slots.proofs.sound_shape.control_passes.Goals as goal

pub returns : goal.returns
returns c = search control_passes_lem

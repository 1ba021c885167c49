-- `soundness::sound::sound` meets its contract.
use Rattle.soundness.proofs.SoundDecided.{not_formed}
use Rattle.soundness.proofs.sound.sound.Goals as goal

pub sound_formed-requires : goal.sound_formed-requires
sound_formed-requires c = c.well_formed-2.ensures.sound c.if-well_formed.true

pub returns-else-well_formed : goal.returns-else-well_formed
returns-else-well_formed c = not_formed _ _ c.well_formed-2.ensures c.if-well_formed.false

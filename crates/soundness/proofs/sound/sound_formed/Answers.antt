-- `soundness::sound::sound_formed` meets its contract.
use Rattle.checks.proofs.CheckLaws.{counted_few}
use Rattle.soundness.proofs.SoundDecided.{bad_module, bad_functions, image_decided}
use Rattle.soundness.proofs.sound.sound_formed.Goals as goal

pub returns-in_default : goal.returns-in_default
returns-in_default c = search (bad_module, c.in_default.ensures)

pub returns-in_default-read_functions : goal.returns-in_default-read_functions
returns-in_default-read_functions c = search (bad_functions, c.in-Ok.ensures, c.in_default-read_functions.ensures)

pub slice_bounds-counts-end : goal.slice_bounds-counts-end
slice_bounds-counts-end c = counted_few _ _ _ c.in-Ok-read_functions.ensures

pub returns : goal.returns
returns c = search (image_decided, c.in-Ok.ensures, c.in-Ok-read_functions.ensures)

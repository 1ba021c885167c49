-- Sound stays sound: an accepted command takes a sound state to a sound state.
use mathlib.Core.Path.{ap, ◌∙◌}
use Rattle.term.specs.Module.{check_module}
use Rattle.rules.specs.State.{State}
use Rattle.rules.specs.Load.{good_sizes}
use Rattle.rules.specs.Commands.{Deed, Move, apply}
use Rattle.rules.specs.Sound.{Sound}
use Rattle.demands.proofs.Does.{Does}
use Rattle.demands.proofs.Frame.{same_module, same_sizes}
use Rattle.demands.proofs.SoundMail.{targets_after, no_queue_after, once_after, nothing_else_after, prefixes_after}
use Rattle.demands.proofs.SoundSpawns.{place_0_after, pool_ends_after, history_fits_after, born_after, born_once_after, place_0_unborn_after, children_after}
use Rattle.demands.proofs.SoundControls.{LawsAt, controls_after, controls_before_after, check_numbers_after, sends_said_after}

pub sound_after : {s : State} {d : Deed} {w : Move} → LawsAt s → Sound s → Does s d w → Sound (apply w s)
sound_after {s} {d} {w} laws sound a = record {
  sizes_pass = ap good_sizes (same_sizes w s) ∙ sound.sizes_pass;
  module_passes = ap check_module (same_module w s) ∙ sound.module_passes;
  place_0 = place_0_after sound a;
  pool_ends = pool_ends_after sound a;
  no_queue_elsewhere = no_queue_after sound a;
  history_fits = history_fits_after sound a;
  controls = controls_after laws sound a;
  controls_before = controls_before_after laws sound a;
  check_numbers = check_numbers_after laws sound a;
  sends_said = sends_said_after laws sound a;
  born = born_after sound a;
  born_once = born_once_after sound a;
  place_0_unborn = place_0_unborn_after sound a;
  children_in_pool = children_after sound a;
  targets_in_pool = targets_after sound a;
  once = once_after sound a;
  nothing_else = nothing_else_after sound a;
  prefixes = prefixes_after sound a;
}

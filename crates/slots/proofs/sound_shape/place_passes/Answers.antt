-- `place_passes` meets its contract.
use mathlib.Core.Path.{sym}
use native.Mathlib.Omega.{arith}
use lib.Seq.{length-take-le}
use Rattle.slots.proofs.SoundTestShape.{place_free, place_shapeless, place_control, place_entries}
use Rattle.slots.proofs.sound_shape.place_passes.Goals as goal

pub returns-then-block-eq-FREE : goal.returns-then-block-eq-FREE
returns-then-block-eq-FREE c = search place_free

pub slice_bounds-present_shape-end : goal.slice_bounds-present_shape-end
slice_bounds-present_shape-end c = sym (length-take-le _ _ (let x = c.requires.block.first_fits in omega arith))

pub returns-then-not-present_shape : goal.returns-then-not-present_shape
returns-then-not-present_shape c = search place_shapeless

pub slice_bounds-control_passes-end : goal.slice_bounds-control_passes-end
slice_bounds-control_passes-end c = sym (length-take-le _ _ (let x = c.requires.block.first_fits in omega arith))

pub returns-then-not-control_passes : goal.returns-then-not-control_passes
returns-then-not-control_passes c = search place_control

pub returns : goal.returns
returns c = search place_entries

-- `step_receive` meets its contract.
use mathlib.Core.Path.{◌∙◌, ap}
use Rattle.std.specs.Prelude.{Err}
use Rattle.stepping.proofs.Steps.{receive_does, receive_large, receive_waits, receive_ready, about_lives}
use Rattle.stepping.proofs.stepping.step_receive.Goals as goal

pub pick-place-requires : goal.pick-place-requires
pick-place-requires c = search about_lives

pub make_rec-requires : goal.make_rec-requires
make_rec-requires c =
    let start = c in
    receive_ready _ _ _ _ _ start.requires.1 c.pick-place.ensures start.requires.2 _ start.requires.0 c.in-Ok.is

pub returns-in-Err-Nothing : goal.returns-in-Err-Nothing
returns-in-Err-Nothing c = let k = c.in-Err-Nothing in search (receive_waits, k.is ∙ ap Err (rw k.is at k.field-0-is))

pub returns-in-Err-TooLarge : goal.returns-in-Err-TooLarge
returns-in-Err-TooLarge c = let k = c.in-Err-TooLarge in search (receive_large, k.is ∙ ap Err (rw k.is at k.field-0-is))

pub returns-in-Ok : goal.returns-in-Ok
returns-in-Ok c = search receive_does

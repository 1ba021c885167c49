-- `taken` meets its contract.
use Rattle.step.proofs.RowBecomes.{place_some, place_none, receive_outside, receive_written}
use Rattle.step.proofs.control.taken.Goals as goal

pub returns-in_err-at : goal.returns-in_err-at
returns-in_err-at c = receive_outside _ _ _ _ (place_none _ _ c.working_place.ensures _ c.in_err-at.ensures.value)

pub returns : goal.returns
returns c = search (receive_written, place_some _ _ c.working_place.ensures _ c.in_ok-at.ensures.value)

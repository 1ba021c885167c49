-- `child` meets its contract.
use Rattle.step.proofs.RowBecomes.{place_some, place_none}
use Rattle.step.proofs.RowChild.{child_past, child_short, child_over, child_written}
use Rattle.step.proofs.control.child.Goals as goal

pub returns-in_err-at : goal.returns-in_err-at
returns-in_err-at c = child_past _ _ _ (place_none _ _ c.working_place.ensures _ c.in_err-at.ensures.value)

pub returns-then-end-first : goal.returns-then-end-first
returns-then-end-first c = search (child_short, place_some _ _ c.working_place.ensures _ c.in_ok-at.ensures.value)

pub returns-then-c-end : goal.returns-then-c-end
returns-then-c-end c = search (child_over, place_some _ _ c.working_place.ensures _ c.in_ok-at.ensures.value)

pub returns : goal.returns
returns c = search (child_written, place_some _ _ c.working_place.ensures _ c.in_ok-at.ensures.value)

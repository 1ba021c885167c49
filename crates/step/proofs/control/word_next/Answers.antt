-- `word_next` meets its contract.
use Rattle.step.proofs.RowBecomes.{place_some, place_none, word_past, word_written}
use Rattle.step.proofs.control.word_next.Goals as goal

pub returns-in_err-at : goal.returns-in_err-at
returns-in_err-at c = word_past _ _ _ _ (place_none _ _ c.working_place.ensures _ c.in_err-at.ensures.value)

pub returns : goal.returns
returns c = search (word_written, place_some _ _ c.working_place.ensures _ c.in_ok-at.ensures.value)

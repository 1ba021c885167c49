-- `apply_next` meets its contract.
use Rattle.step.proofs.RowApply.{apply_past, apply_missing, apply_written}
use Rattle.step.proofs.step.apply_next.Goals as goal

pub returns-then-c-at : goal.returns-then-c-at
returns-then-c-at c = search apply_past

pub returns-then-program-start : goal.returns-then-program-start
returns-then-program-start c = search apply_missing

pub returns : goal.returns
returns c = search apply_written

-- `cased` meets its contract.
use Rattle.step.proofs.RowStep.{cased_past, cased_is}
use Rattle.step.proofs.step.cased.Goals as goal

pub returns-then-c-at : goal.returns-then-c-at
returns-then-c-at c = search cased_past

pub returns : goal.returns
returns c = search cased_is

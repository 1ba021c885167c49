-- `called` meets its contract.
use Rattle.step.proofs.RowStep.{called_past, called_is}
use Rattle.step.proofs.step.called.Goals as goal

pub returns-then-c-at : goal.returns-then-c-at
returns-then-c-at c = search called_past

pub returns : goal.returns
returns c = search called_is

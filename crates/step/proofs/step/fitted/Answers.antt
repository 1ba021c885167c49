-- `fitted` meets its contract.
use Rattle.step.proofs.RowStep.{fitted_row, fitted_large}
use Rattle.step.proofs.step.fitted.Goals as goal

pub returns-then-r-room : goal.returns-then-r-room
returns-then-r-room c = search fitted_row

pub returns-else-r-room : goal.returns-else-r-room
returns-else-r-room c = search fitted_large

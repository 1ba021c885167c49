-- `case_doing` meets its contract.
use Rattle.step.proofs.RowWork.{case_goes, case_stuck}
use Rattle.step.proofs.work.case_doing.Goals as goal

pub returns-in-Some : goal.returns-in-Some
returns-in-Some c = search case_goes

pub returns-in-None : goal.returns-in-None
returns-in-None c = search case_stuck

-- `call_doing` meets its contract.
use Rattle.step.proofs.RowWork.{call_stuck, call_goes}
use Rattle.step.proofs.work.call_doing.Goals as goal

pub returns-in-Some : goal.returns-in-Some
returns-in-Some c = search call_goes

pub returns-in-None : goal.returns-in-None
returns-in-None c = search call_stuck

-- `about_to` meets its contract.
use Rattle.step.proofs.RowWork.{about_finished, about_going}
use Rattle.step.proofs.work.about_to.Goals as goal

pub returns-in-Some : goal.returns-in-Some
returns-in-Some c = search (about_going, c.in-Some.ensures)

pub returns-in-None : goal.returns-in-None
returns-in-None c = search (about_finished, c.in-None.ensures)

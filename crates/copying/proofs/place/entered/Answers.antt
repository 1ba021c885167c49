-- `entered` meets its contract.
use Rattle.copying.proofs.RowPlace.{enters_receive, enters_case, enters_none, enters_let, enters_all}
use Rattle.copying.proofs.place.entered.Goals as goal

pub returns-in-12 : goal.returns-in-12
returns-in-12 c = search enters_receive

pub returns-in-10 : goal.returns-in-10
returns-in-10 c = search enters_case

pub returns-then-n-eq0 : goal.returns-then-n-eq0
returns-then-n-eq0 c = search enters_none

pub returns-else-n-eq0 : goal.returns-else-n-eq0
returns-else-n-eq0 c = search enters_let

pub returns-in_default : goal.returns-in_default
returns-in_default c = search enters_all

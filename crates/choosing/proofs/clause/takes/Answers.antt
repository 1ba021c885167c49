-- `takes` meets its contract.
use Rattle.choosing.proofs.RowClause.{takes_past, takes_not, takes_holds}
use Rattle.choosing.proofs.clause.takes.Goals as goal

pub returns-then-c-at : goal.returns-then-c-at
returns-then-c-at c = search takes_past

pub returns-then-not-matches : goal.returns-then-not-matches
returns-then-not-matches c = search takes_not

pub returns : goal.returns
returns c = search takes_holds

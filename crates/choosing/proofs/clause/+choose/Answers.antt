-- `choose` meets its contract.
use Rattle.choosing.proofs.RowClause.{choose_none, choose_past, choose_takes, choose_broken, choose_next}
use Rattle.choosing.proofs.clause.+choose.Goals as goal
use Rattle.choosing.proofs.clause.+choose.Goals.{then-n-eq0-via-then-n-eq0, then-n-eq0-via-else-n-eq0+then-c-at}

pub returns-then-n-eq0 : goal.returns-then-n-eq0
returns-then-n-eq0 t c =
    elim c.then-n-eq0.branch [
      | then-n-eq0-via-then-n-eq0 w ↦ search choose_none
      | then-n-eq0-via-else-n-eq0+then-c-at w ↦ search choose_past
    ]

pub returns-then-takes : goal.returns-then-takes
returns-then-takes t c = search choose_takes

pub returns-then-next-at : goal.returns-then-next-at
returns-then-next-at t c = search choose_broken

pub returns : goal.returns
returns t c = search choose_next

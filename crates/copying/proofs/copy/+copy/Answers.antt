-- `copy` meets its contract.
use Rattle.copying.proofs.RowCopy.{copy_none, copy_past, copy_full, copy_value, copy_short, copy_integer, copy_node}
use Rattle.copying.proofs.copy.+copy.Goals as goal
use Rattle.copying.proofs.copy.+copy.Goals.{then-ahead-eq0-via-then-ahead-eq0, then-ahead-eq0-via-else-ahead-eq0+then-row-at, then-ahead-eq0-via-else-ahead-eq0+else-row-at+then-out-to}

pub returns-then-ahead-eq0 : goal.returns-then-ahead-eq0
returns-then-ahead-eq0 t c =
    elim c.then-ahead-eq0.branch [
      | then-ahead-eq0-via-then-ahead-eq0 w ↦ search copy_none
      | then-ahead-eq0-via-else-ahead-eq0+then-row-at w ↦ search copy_past
      | then-ahead-eq0-via-else-ahead-eq0+else-row-at+then-out-to w ↦ search copy_full
    ]

pub returns-in-Some : goal.returns-in-Some
returns-in-Some t c = search (copy_value, c.in-Some.ensures)

pub returns-then-row-at-lt2 : goal.returns-then-row-at-lt2
returns-then-row-at-lt2 t c = search (copy_short, c.in_default.ensures)

pub returns-then-tag-eq-INTEGER : goal.returns-then-tag-eq-INTEGER
returns-then-tag-eq-INTEGER t c = search (copy_integer, c.in_default.ensures)

pub returns : goal.returns
returns t c = search (copy_node, c.in_default.ensures)

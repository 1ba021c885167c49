-- `parameters` meets its contract.
use Rattle.step.proofs.RowApply.{parameters_none, parameters_past, parameters_high, parameters_more}
use Rattle.step.proofs.step.+parameters.Goals as goal
use Rattle.step.proofs.step.+parameters.Goals.{then-count-eq0-via-then-count-eq0, then-count-eq0-via-else-count-eq0+then-c-at, then-count-eq0-via-else-count-eq0+else-c-at+then-env-x}

pub returns-then-count-eq0 : goal.returns-then-count-eq0
returns-then-count-eq0 t c =
    elim c.then-count-eq0.branch [
      | then-count-eq0-via-then-count-eq0 w ↦ search parameters_none
      | then-count-eq0-via-else-count-eq0+then-c-at w ↦ search parameters_past
      | then-count-eq0-via-else-count-eq0+else-c-at+then-env-x w ↦ search parameters_high
    ]

pub returns : goal.returns
returns t c = search parameters_more

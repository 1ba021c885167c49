-- `case_next` meets its contract.
use Rattle.step.proofs.RowStep.{some_from, none_from, error_from, case_clause, case_nothing}
use Rattle.step.proofs.step.case_next.Goals as goal

pub returns-in_err-clause : goal.returns-in_err-clause
returns-in_err-clause c =
    let e = c.in_err-clause.ensures.value in
    case_nothing _ _ _ _ c.cased.ensures (none_from _ _ e) _ (error_from _ _ _ e c.from_residual.ensures.1)

pub returns : goal.returns
returns c = search (case_clause, some_from _ _ c.in_ok-clause.ensures.value)

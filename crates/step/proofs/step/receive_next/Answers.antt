-- `receive_next` meets its contract.
use Rattle.step.proofs.RowStep.{some_from, none_from, error_from, receive_past, receive_clause, receive_nothing}
use Rattle.step.proofs.step.receive_next.Goals as goal

pub returns-then-c-at : goal.returns-then-c-at
returns-then-c-at c = search receive_past

pub returns-in_err-clause : goal.returns-in_err-clause
returns-in_err-clause c =
    let e = c.in_err-clause.ensures.value in
    search (receive_nothing, none_from _ _ e, error_from _ _ _ e c.from_residual.ensures.1)

pub returns : goal.returns
returns c = search (receive_clause, some_from _ _ c.in_ok-clause.ensures.value)

-- `seq_next` meets its contract.
use Rattle.step.proofs.RowStep.{error_from}
use Rattle.step.proofs.RowBecomes.{place_some, place_none}
use Rattle.step.proofs.RowSeq.{seq_past, seq_call, seq_apply, seq_case, seq_let, seq_other}
use Rattle.step.proofs.control.seq_next.Goals as goal

pub returns-in_err-at : goal.returns-in_err-at
returns-in_err-at c =
    let e = c.in_err-at.ensures.value in
    seq_past _ _ _ _ (place_none _ _ c.working_place.ensures _ e) (error_from _ _ _ e c.from_residual.ensures.1)

pub returns-in-8 : goal.returns-in-8
returns-in-8 c = search (seq_call, place_some _ _ c.working_place.ensures _ c.in_ok-at.ensures.value)

pub returns-in-9 : goal.returns-in-9
returns-in-9 c = search (seq_apply, place_some _ _ c.working_place.ensures _ c.in_ok-at.ensures.value)

pub returns-in-10 : goal.returns-in-10
returns-in-10 c = search (seq_case, place_some _ _ c.working_place.ensures _ c.in_ok-at.ensures.value)

pub returns-in-11 : goal.returns-in-11
returns-in-11 c = search (seq_let, place_some _ _ c.working_place.ensures _ c.in_ok-at.ensures.value)

pub returns-in_default : goal.returns-in_default
returns-in_default c = search (seq_other, place_some _ _ c.working_place.ensures _ c.in_ok-at.ensures.value)

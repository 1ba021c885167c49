-- `call_next` meets its contract.
use Rattle.step.proofs.RowStep.{some_from, none_from, error_from, call_stuck, call_long, call_integer, call_word}
use Rattle.step.proofs.step.call_next.Goals as goal

pub returns-in_err-value : goal.returns-in_err-value
returns-in_err-value c =
    let e = c.in_err-value.ensures.value in
    call_stuck _ _ _ _ c.called.ensures (none_from _ _ e) _ (error_from _ _ _ e c.from_residual.ensures.1)

pub returns-in_default : goal.returns-in_default
returns-in_default c = search (call_long, some_from _ _ c.in_ok-value.ensures.value, c.in_default.not-Short)

pub returns-then-w-eq-INTEGER_WORD : goal.returns-then-w-eq-INTEGER_WORD
returns-then-w-eq-INTEGER_WORD c = search (call_integer, some_from _ _ c.in_ok-value.ensures.value)

pub returns : goal.returns
returns c = search (call_word, some_from _ _ c.in_ok-value.ensures.value)

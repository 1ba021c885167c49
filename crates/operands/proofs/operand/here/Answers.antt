-- `here` meets its contract.
use Rattle.operands.proofs.RowOperand.{here_past, here_long, here_word, here_cut, here_integer}
use Rattle.operands.proofs.operand.here.Goals as goal

pub returns-in_err-w : goal.returns-in_err-w
returns-in_err-w c = here_past _ _ c.in_err-w.ensures.lookup.3 _

pub returns-then-t-eq-CONS : goal.returns-then-t-eq-CONS
returns-then-t-eq-CONS c = here_long _ _ _ (c.in_ok-w.ensures.lookup.3.1 0) _ c.tag-t.ensures c.then-t-eq-CONS.either

pub returns-then-w-ne-INTEGER_WORD : goal.returns-then-w-ne-INTEGER_WORD
returns-then-w-ne-INTEGER_WORD c = search (here_word, c.in_ok-w.ensures.lookup.3.1 0)

pub returns-in_err-get : goal.returns-in_err-get
returns-in_err-get c = search (here_cut, c.in_ok-w.ensures.lookup.3.1 0, c.in_err-get.ensures.lookup.3)

pub returns : goal.returns
returns c = search (here_integer, c.in_ok-w.ensures.lookup.3.1 0, c.in_ok-get.ensures.lookup.3.1 0)

-- `read_pair` meets its contract.
use Rattle.parsing.proofs.NumberLaws.{pair_single, pair_first, pair_second, pair_both}
use Rattle.parsing.proofs.parsing.read_pair.Goals as goal

pub returns-then-text-middle : goal.returns-then-text-middle
returns-then-text-middle c = search pair_single

pub returns-in_err-a : goal.returns-in_err-a
returns-in_err-a c = rw c.from_residual.ensures (search (pair_first, c.in_err-a.ensures))

pub returns-in_err-b : goal.returns-in_err-b
returns-in_err-b c = rw c.from_residual-in_err-b.ensures (search (pair_second, c.in_ok-a.ensures, c.in_err-b.ensures))

pub returns : goal.returns
returns c = search (pair_both, c.in_ok-a.ensures, c.in_ok-b.ensures)

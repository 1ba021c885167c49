-- `with_integer` meets its contract.
use Rattle.copying.proofs.RowNext.{puts_two}
use Rattle.copying.proofs.next.with_integer.Goals as goal

pub returns : goal.returns
returns c = search puts_two

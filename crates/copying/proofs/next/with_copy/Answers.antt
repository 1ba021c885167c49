-- `with_copy` meets its contract.
use Rattle.copying.proofs.RowNext.{puts_copy}
use Rattle.copying.proofs.next.with_copy.Goals as goal

pub returns : goal.returns
returns c = search puts_copy

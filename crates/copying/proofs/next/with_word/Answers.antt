-- `with_word` meets its contract.
use Rattle.copying.proofs.RowNext.{puts}
use Rattle.copying.proofs.next.with_word.Goals as goal

pub returns : goal.returns
returns c = search puts

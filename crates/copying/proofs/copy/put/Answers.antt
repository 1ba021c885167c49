-- `put` meets its contract.
use Rattle.copying.proofs.RowWrite.{put_in, put_out}
use Rattle.copying.proofs.copy.put.Goals as goal

pub returns-then-to-out : goal.returns-then-to-out
returns-then-to-out c = search put_in

pub returns : goal.returns
returns c = search put_out

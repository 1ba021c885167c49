-- `of_value` meets its contract.
use Rattle.copying.proofs.RowPlace.{within_two, below_two}
use Rattle.copying.proofs.place.of_value.Goals as goal

pub returns-then-t-ge-ATOM : goal.returns-then-t-ge-ATOM
returns-then-t-ge-ATOM c = search within_two

pub returns-else-t-ge-ATOM : goal.returns-else-t-ge-ATOM
returns-else-t-ge-ATOM c = search below_two

-- `shape::shape::alike` meets its contract.
use Rattle.shape.proofs.AlikeLaws.{alike_leaf, alike_own}
use Rattle.shape.proofs.shape.alike.Goals as goal

pub returns-then-n-eq0 : goal.returns-then-n-eq0
returns-then-n-eq0 c i = search (alike_leaf, c.in-Alike.ensures)

pub returns-else-n-eq0 : goal.returns-else-n-eq0
returns-else-n-eq0 c = search (alike_own, c.in-Alike.ensures)

-- `cuts::cut::lower_on` meets its contract.
use Rattle.std.proofs.Common.{arith}
use Rattle.cuts.proofs.LowerLaws.{on_start, on_next, on_done}
use Rattle.cuts.proofs.cut.lower_on.Goals as goal

pub loop-k-init : goal.loop-k-init
loop-k-init c = on_start _ _ _ _ _ _ c.requires.4 c.requires.1 c.slot.ensures.0 c.requires.3

pub loop-k-preserved : goal.loop-k-preserved
loop-k-preserved c = on_next _ _ _ _ _ _ _ c.requires.0 c.loop-k-test.true c.loop-k.invariant _ c.lower.ensures

pub returns : goal.returns
returns c = on_done _ _ _ _ _ _ _ (omega arith) c.loop-k.invariant

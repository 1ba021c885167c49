-- `cuts::search::blocked` meets its contract.
use Rattle.std.proofs.Common.{arith}
use Rattle.cuts.proofs.LinkTests.{blocked_nowhere}
use Rattle.cuts.proofs.search.blocked.Goals as goal

pub returns : goal.returns
returns c = blocked_nowhere _ _ _ _ _ _ (omega arith) c.loop-k.invariant

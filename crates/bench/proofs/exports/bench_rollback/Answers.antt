use Rattle.bench.proofs.Packed.{rollback_returns}
use Rattle.bench.proofs.exports.bench_rollback.Goals as goal

pub returns : goal.returns
returns c = rollback_returns _ _ c.pack.ensures _ _ _ _ c.rollback.ensures

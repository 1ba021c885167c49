use Rattle.bench.proofs.Packed.{command_returns}
use Rattle.bench.proofs.exports.bench_back.Goals as goal

pub returns : goal.returns
returns c = command_returns _ _ c.pack.ensures _ _ _ c.back.ensures

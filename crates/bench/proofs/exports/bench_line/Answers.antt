use Rattle.bench.proofs.Packed.{line_returns}
use Rattle.bench.proofs.exports.bench_line.Goals as goal

pub returns : goal.returns
returns c = line_returns _ _ c.pack.ensures _ _ _ c.line.ensures

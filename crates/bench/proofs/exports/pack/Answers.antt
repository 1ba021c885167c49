use Rattle.bench.proofs.Packed.{pack_is}
use Rattle.bench.proofs.exports.pack.Goals as goal

pub returns : goal.returns
returns c = pack_is _ _ _ c.value.ensures c.number.ensures

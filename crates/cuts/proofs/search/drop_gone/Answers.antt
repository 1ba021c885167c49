-- `cuts::search::drop_gone` meets its contract.
use Rattle.std.proofs.Common.{refl}
use Rattle.lists.proofs.Decides.{refuted}
use Rattle.cuts.proofs.ChainLaws.{drop_on}
use Rattle.cuts.proofs.search.drop_gone.Goals as goal

pub loop-k-preserved : goal.loop-k-preserved
loop-k-preserved c =
    let l = c.loop-k in
    let p = c.requires in
    (refl, drop_on _ _ _ _ _ p.0 p.2 l.invariant.1 l.invariant.0 c.loop-k-test.true (refuted c.stays.ensures c.if-not-stays.true))

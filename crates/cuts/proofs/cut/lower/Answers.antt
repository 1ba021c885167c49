-- `cuts::cut::lower` meets its contract.
use Rattle.lists.proofs.Decides.{refuted}
use Rattle.cuts.specs.Going.{kept}
use Rattle.cuts.proofs.LowerLaws.{lower_torn}
use Rattle.cuts.proofs.cut.lower.Goals as goal

pub returns-then-tears : goal.returns-then-tears
returns-then-tears c = lower_torn _ _ _ (c.tears.ensures.sound c.if-tears.true)

pub returns-else-tears : goal.returns-else-tears
returns-else-tears c = kept (refuted c.tears.ensures c.if-tears.false)

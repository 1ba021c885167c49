-- `cuts::cut::settled` meets its contract.
use mathlib.Core.Path.{◌∙◌}
use lib.ListN.{length-set}
use Rattle.cuts.proofs.LinkCut.{settled_settles}
use Rattle.cuts.proofs.cut.settled.Goals as goal

pub returns : goal.returns
returns c =
    let a = c.args in
    let p = c.requires in
    settled_settles _ _ _ p.0 (length-set a.levels.now a.event.line a.event.index ∙ p.3) c.lowered.ensures

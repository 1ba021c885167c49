-- `cuts::cut::lowered` meets its contract.
use Rattle.std.proofs.Common.{arith}
use Rattle.cuts.proofs.Lines.{sum_less}
use Rattle.cuts.proofs.LowerLaws.{settling_start, settling_next}
use Rattle.cuts.proofs.cut.lowered.Goals as goal

pub loop-y-init : goal.loop-y-init
loop-y-init c = let p = c.requires in settling_start _ _ c.args.levels.now p.4 p.3 p.1

pub loop-y-smaller : goal.loop-y-smaller
loop-y-smaller c =
    let l = c.loop-y in
    let found = c.in-Some.ensures in
    sum_less l.left c.in-Some.y _ (omega (arith, found.0, l.invariant.left_long)) (omega (arith, found.1))

pub loop-y-preserved : goal.loop-y-preserved
loop-y-preserved c =
    let found = c.in-Some.ensures in
    settling_next _ _ _ _ c.loop-y.invariant _ found.0 _ _ (omega (arith, found.1)) c.lower_on.ensures

-- `checks::module::keep_functions` meets its contract.
use mathlib.Core.Path.{refl}
use native.Mathlib.Omega.{arith}
use Rattle.checks.proofs.RuleLaws.{going_start, going_done, going_breaks, going_next}
use Rattle.checks.proofs.WalkLaws.{keeps_at, keeps_onward}
use Rattle.checks.proofs.module.keep_functions.Goals as goal

pub loop-at-init : goal.loop-at-init
loop-at-init c = search going_start

pub returns-in-Err : goal.returns-in-Err
returns-in-Err c =
    let k = keeps_at c.in-Err.is c.keep.ensures in
    search (going_breaks, k, refl)

pub loop-at-smaller : goal.loop-at-smaller
loop-at-smaller c =
    let k = keeps_at c.in-Ok.is c.keep.ensures in
    let f = keeps_onward k in
    omega arith

pub loop-at-preserved : goal.loop-at-preserved
loop-at-preserved c =
    let k = keeps_at c.in-Ok.is c.keep.ensures in
    search (going_next, k)

pub returns : goal.returns
returns c = search going_done

-- `checks::module::read_functions` meets its contract.
use Prim.Native.Nat.{◌<◌}
use mathlib.Core.Path.{refl}
use native.Mathlib.Omega.{arith}
use lib.ListN.{length, length-set}
use Rattle.checks.proofs.FunctionLaws.{so_far_start, so_far_done, so_far_fails, so_far_next, empty_module}
use Rattle.shape.proofs.ReadingLaws.{further_ends}
use Rattle.checks.proofs.module.read_functions.Goals as goal

pub returns-then-row-eq0 : goal.returns-then-row-eq0
returns-then-row-eq0 c = search empty_module

pub loop-at-init : goal.loop-at-init
loop-at-init c = (refl, omega arith, search so_far_start)

pub returns-in_err-end : goal.returns-in_err-end
returns-in_err-end c = search (so_far_fails, c.in_err-end.ensures)

pub loop-at-smaller : goal.loop-at-smaller
loop-at-smaller c =
    let f = further_ends 0 _ _ _ 1 _ (omega arith) c.in_ok-end.ensures in
    omega arith

pub loop-at-preserved : goal.loop-at-preserved
loop-at-preserved c =
    let i = c.loop-at in
    let room : i.number < length i.counts = omega arith in
    (omega (arith, length-set i.counts i.number c.n.result), omega (arith, length-set i.counts i.number c.n.result), search (so_far_next, c.in_ok-end.ensures))

pub returns : goal.returns
returns c =
    let few = c.loop-at.invariant.1 in
    search so_far_done

-- `send_next` meets its contract.
use native.Mathlib.Omega.{arith}
use Prim.Native.Nat.{◌+◌}
use Rattle.row_laws.proofs.RowTerms.{skip_within}
use Rattle.step.proofs.RowBecomes.{place_some, place_none}
use Rattle.step.proofs.RowSend.{sending_past, sending_written}
use Rattle.step.proofs.control.send_next.Goals as goal

pub returns-in_err-at : goal.returns-in_err-at
returns-in_err-at c = sending_past _ _ _ (place_none _ _ c.working_place.ensures _ c.in_err-at.ensures.value)

pub with_copy-requires : goal.with_copy-requires
with_copy-requires c =
    let p = place_some _ _ c.working_place.ensures _ c.in_ok-at.ensures.value in
    let h = skip_within c.args.c.now (c.in_ok-at.at + 1) _ _ c.skip-value.ensures (omega (arith, p)) in
    (omega (arith, p), omega (arith, h), omega arith, omega arith)

pub returns : goal.returns
returns c = search (sending_written, place_some _ _ c.working_place.ensures _ c.in_ok-at.ensures.value)

-- `set_control` meets its contract.
use Prim.Native.Nat.{◌+◌, ◌-◌}
use lib.ListN.{length}
use Rattle.writing.proofs.SlotCode.{control_written, run_same}
use Rattle.writing.proofs.slots.set_control.Goals as goal

pub shape_of-slot : goal.shape_of-slot
shape_of-slot c =
    let S = c in
    run_same S.args.slot.now c.fill.new.room 8 (8 + S.args.words - 8) 1 (length S.args.control.now) c.fill.auto.room

pub returns : goal.returns
returns c = control_written _ _ _ _ c.requires c.fill.ensures

-- `control` meets its contract.
use Rattle.reading.proofs.StateReads.{first_slot, control_fits, control_out}
use Rattle.reading.proofs.state.control.Goals as goal

pub slot-requires : goal.slot-requires
slot-requires c = (c.requires.0, c.requires.1, first_slot _)

pub slot_control-requires : goal.slot_control-requires
slot_control-requires c = control_fits _ c.requires.0 _ _ _ c.slot.ensures

pub returns : goal.returns
returns c = control_out _ _ _ c.slot.ensures _ c.slot_control.ensures

-- `take` meets its contract.
use Rattle.entering.proofs.EnterCode.{take_in, take_written}
use Rattle.entering.proofs.entering.take.Goals as goal

pub take_out-requires : goal.take_out-requires
take_out-requires c = take_in _ _ _ _ _ _ _ _ c.copy_slot.ensures c.requires c.copy_slot.auto.store

pub returns : goal.returns
returns c = take_written _ _ _ _ _ _ _ _ c.copy_slot.ensures _ c.take_out.ensures

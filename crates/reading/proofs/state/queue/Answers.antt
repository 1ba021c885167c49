-- `queue` meets its contract.
use Rattle.reading.proofs.StateReads.{first_slot, names_fit, queue_out}
use Rattle.reading.proofs.state.queue.Goals as goal

pub slot-requires : goal.slot-requires
slot-requires c = (c.requires.0, c.requires.1, first_slot _)

pub slot_names-requires : goal.slot_names-requires
slot_names-requires c = names_fit _ c.requires.0 _ _ _ c.slot.ensures _ c.most_words.ensures

pub returns : goal.returns
returns c = queue_out _ _ _ c.slot.ensures _ _ c.most_words.ensures c.slot_names.ensures

-- `has_room` meets its contract.
use Rattle.reading.proofs.StateReads.{lives_place}
use Rattle.making.proofs.Living.{room_is}
use Rattle.making.proofs.making.has_room.Goals as goal

pub entry_count-requires : goal.entry_count-requires
entry_count-requires c = search lives_place

pub returns : goal.returns
returns c = room_is _ _ _ _ c.entry_count.ensures c.most_entries.ensures

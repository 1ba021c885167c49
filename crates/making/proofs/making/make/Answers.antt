-- `make` meets its contract.
use Rattle.making.proofs.Made.{entry_else, entry_done, entry_full, grow_ready, part_length}
use Rattle.making.proofs.making.make.Goals as goal

pub returns-in_default : goal.returns-in_default
returns-in_default c = search (entry_else, c.in_default.not-Ok)

pub returns-then-not-has_room : goal.returns-then-not-has_room
returns-then-not-has_room c = search entry_full

pub slice_bounds-enter-end : goal.slice_bounds-enter-end
slice_bounds-enter-end c = search part_length

pub enter-requires : goal.enter-requires
enter-requires c = search grow_ready

pub returns : goal.returns
returns c = search entry_done

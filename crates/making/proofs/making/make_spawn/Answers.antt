-- `make_spawn` meets its contract.
use Rattle.making.proofs.Made.{spawn_else, spawn_full, spawn_done, grow_ready, part_length}
use Rattle.making.proofs.making.make_spawn.Goals as goal

pub returns-in_default : goal.returns-in_default
returns-in_default c = search (spawn_else, c.in_default.not-Ok)

pub slice_bounds-bear-end : goal.slice_bounds-bear-end
slice_bounds-bear-end c = search part_length

pub bear-requires : goal.bear-requires
bear-requires c = search grow_ready

pub returns-then-has_room : goal.returns-then-has_room
returns-then-has_room c = search spawn_done

pub returns : goal.returns
returns c = search spawn_full

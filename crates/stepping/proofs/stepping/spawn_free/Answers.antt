-- `spawn_free` meets its contract.
use native.Mathlib.Omega.{arith}
use Rattle.stepping.proofs.Spawning.{child_part, spawn_does, child_else, spawn_ready, child_within, place_small}
use Rattle.stepping.proofs.Steps.{about_lives}
use Rattle.stepping.proofs.stepping.spawn_free.Goals as goal

pub child_row-requires : goal.child_row-requires
child_row-requires c = search about_lives

pub returns-in_default : goal.returns-in_default
returns-in_default c = search child_else

pub word_of-requires : goal.word_of-requires
word_of-requires c = search (place_small, arith)

pub word_row-next-requires : goal.word_row-next-requires
word_row-next-requires c = search about_lives

pub slice_bounds-make_spawn-end : goal.slice_bounds-make_spawn-end
slice_bounds-make_spawn-end c = search child_within

pub slice_bounds-make_spawn-end-2 : goal.slice_bounds-make_spawn-end-2
slice_bounds-make_spawn-end-2 c = search child_part

pub make_spawn-requires : goal.make_spawn-requires
make_spawn-requires c =
    let start = c in
    spawn_ready _ _ _ start.requires.1 _ _ _ start.requires.4 c.child_row.ensures _ _ _ _ _ c.in-Ok.is start.requires.3 c.word_row-next.ensures c.word_of.ensures start.requires.0 start.requires.2

pub returns : goal.returns
returns c = search spawn_does

-- `spawn_at` meets its contract.
use Rattle.stepping.proofs.Spawning.{free_place, spawn_taken, spawn_beyond}
use Rattle.stepping.proofs.stepping.spawn_at.Goals as goal

pub returns-then-places-f : goal.returns-then-places-f
returns-then-places-f c = search spawn_beyond

pub returns-then-in_pool : goal.returns-then-in_pool
returns-then-in_pool c = search spawn_taken

pub spawn_free-requires : goal.spawn_free-requires
spawn_free-requires c =
    let start = c in
    (start.requires.0, start.requires.1, free_place _ _ _ _ c.places.ensures c.if-places-f.false c.in_pool.ensures c.if-in_pool.false, start.requires.2, start.requires.3)

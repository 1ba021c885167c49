-- `links::links::link_spawn` meets its contract.
use Rattle.links.proofs.LinkReads.{child_place, spawn_adds}
use Rattle.links.proofs.LinkWhole.{entry_low, place_low}
use Rattle.links.proofs.links.link_spawn.Goals as goal

pub entry-own-requires : goal.entry-own-requires
entry-own-requires g c = (entry_low _ c.requires.0 _ _ c.requires.1).0

pub entry-requires : goal.entry-requires
entry-requires g c = let p = c.requires in place_low _ p.0 _ (child_place _ _ _ p.1 _ p.2 c.number-q.ensures)

pub delivery-requires : goal.delivery-requires
delivery-requires g c = let p = c.requires in place_low _ p.0 _ (child_place _ _ _ p.1 _ p.2 c.number-q.ensures)

pub returns : goal.returns
returns g c =
    let p = c.requires in
    spawn_adds _ _ _ p.1 _ _ _ _ _ _ _ c.entry.ensures c.delivery.ensures c.entry-own.ensures p.2 c.number-q.ensures c.push.ensures.items c.push-2.ensures.items

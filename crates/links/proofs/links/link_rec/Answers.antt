-- `links::links::link_rec` meets its contract.
use Rattle.links.proofs.LinkReads.{rec_some, rec_adds}
use Rattle.links.proofs.LinkWhole.{entry_low}
use Rattle.links.proofs.links.link_rec.Goals as goal

pub entry-own-requires : goal.entry-own-requires
entry-own-requires g c = (entry_low _ c.requires.0 _ _ c.requires.1).0

pub overflow_sub-n : goal.overflow_sub-n
overflow_sub-n g c = rec_some _ _ _ c.requires.1 _ c.requires.2 c.seen_by-n.ensures c.requires.0

pub delivery-requires : goal.delivery-requires
delivery-requires g c = (entry_low _ c.requires.0 _ _ c.requires.1).0

pub delivery-requires-2 : goal.delivery-requires-2
delivery-requires-2 g c = (entry_low _ c.requires.0 _ _ c.requires.1).0

pub returns : goal.returns
returns g c =
    let p = c.requires in
    rec_adds _ _ _ p.1 _ p.2 c.seen_by-n.ensures _ _ _ _ _ _ c.entry-own.ensures c.delivery.ensures c.delivery-2.ensures c.push.ensures.items c.push-2.ensures.items

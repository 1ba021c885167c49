-- `links::links::link_send` meets its contract.
use Rattle.std.proofs.Common.{arith}
use Rattle.links.proofs.LinkReads.{send_is, target_place, sends_few, send_adds, send_adds_none}
use Rattle.links.proofs.LinkWhole.{entry_low, place_low, entry_upto, entry_is_place}
use Rattle.links.proofs.links.link_send.Goals as goal

pub target-t-requires : goal.target-t-requires
target-t-requires g c = (c.requires.0, send_is _ _ _ c.requires.1 c.requires.2)

pub overflow_cast-name : goal.overflow_cast-name
overflow_cast-name g c = let h = entry_low _ c.requires.0 _ _ c.requires.1 in omega (arith, h.0)

pub overflow_mul-name : goal.overflow_mul-name
overflow_mul-name g c = let h = entry_low _ c.requires.0 _ _ c.requires.1 in omega (arith, h.0)

pub sends_before-requires : goal.sends_before-requires
sends_before-requires g c = (c.requires.0, entry_is_place _ _ _ c.requires.1, entry_upto _ _ _ c.requires.1)

pub overflow_add-name : goal.overflow_add-name
overflow_add-name g c = let h = entry_low _ c.requires.0 _ _ c.requires.1 in let g = sends_few _ _ _ _ c.requires.0 c.sends_before.ensures in omega (arith, h.0, g)

pub arrival-requires : goal.arrival-requires
arrival-requires g c = (c.requires.0, target_place _ _ _ c.requires.1 _ c.requires.2 c.target-t.ensures)

pub delivery-requires : goal.delivery-requires
delivery-requires g c = let p = c.requires in place_low _ p.0 _ (target_place _ _ _ p.1 _ p.2 c.target-t.ensures)

pub entry-requires : goal.entry-requires
entry-requires g c = (entry_low _ c.requires.0 _ _ c.requires.1).0

pub returns-in-Some : goal.returns-in-Some
returns-in-Some g c =
    let p = c.requires in
    send_adds _ _ _ p.1 _ _ p.2 c.target-t.ensures c.sends_before.ensures _ _ _ _ _ c.delivery.ensures c.entry.ensures c.in-Some.ensures c.push.ensures.items

pub returns-in_default : goal.returns-in_default
returns-in_default g c = send_adds_none _ _ _ c.requires.1 _ _ c.requires.2 c.target-t.ensures c.sends_before.ensures _ c.in_default.ensures

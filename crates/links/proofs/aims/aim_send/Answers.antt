-- `links::aims::aim_send` meets its contract.
use Rattle.links.proofs.LinkReads.{send_is}
use Rattle.links.proofs.SpawnReads.{aim_adds, aim_adds_none}
use Rattle.links.proofs.LinkWhole.{entry_low}
use Rattle.links.proofs.aims.aim_send.Goals as goal

pub target-requires : goal.target-requires
target-requires g c = (c.requires.0, send_is _ _ _ c.requires.1 c.requires.2)

pub entry-requires : goal.entry-requires
entry-requires g c = (entry_low _ c.requires.0 _ _ c.requires.1).0

pub returns-in-Some : goal.returns-in-Some
returns-in-Some g c =
    let p = c.requires in
    aim_adds _ _ _ p.1 _ p.2 c.target.ensures _ _ _ _ c.entry.ensures c.in-Some.ensures c.push.ensures.items

pub returns-in_default : goal.returns-in_default
returns-in_default g c = aim_adds_none _ _ _ c.requires.1 _ c.requires.2 c.target.ensures _ c.in_default.ensures

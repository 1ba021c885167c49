-- `arrive_place` meets its contract.
use borrow.Author.Rules.{rules}
use Rattle.soundness.proofs.MessageTest.{place_arrives, place_arrives_not}
use Rattle.soundness.proofs.messages.arrive_place.Goals as goal

pub arrive_all-requires : goal.arrive_all-requires
arrive_all-requires c = let p = c.requires in (p.1, p.2, p.3, p.4)

pub returns-then-not-arrive_all : goal.returns-then-not-arrive_all
returns-then-not-arrive_all c = search place_arrives_not

pub arrive_taken-requires : goal.arrive_taken-requires
arrive_taken-requires c = let p = c.requires in (p.0.block.present_fits, p.0.block.first_fits, p.0.block.slots, p.0.taken, search rules, p.2, p.3, p.4)

pub returns : goal.returns
returns c = search place_arrives

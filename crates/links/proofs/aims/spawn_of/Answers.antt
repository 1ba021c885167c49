-- `links::aims::spawn_of` meets its contract.
use Rattle.reading.proofs.FlightReads.{end_place}
use Rattle.links.proofs.LinkWhole.{place_low}
use Rattle.links.proofs.SpawnReads.{unborn_root, unborn_start, born_here, unborn_on, unborn_all}
use Rattle.links.proofs.aims.spawn_of.Goals as goal

pub returns-then-q-eq0 : goal.returns-then-q-eq0
returns-then-q-eq0 c = unborn_root _ _ c.if-q-eq0.true

pub loop-p-init : goal.loop-p-init
loop-p-init c = unborn_start _ _

pub spawn_in-requires : goal.spawn_in-requires
spawn_in-requires c = (c.requires, end_place _ _ _ c.places-p-end.ensures c.loop-p-test.true)

pub entry-requires : goal.entry-requires
entry-requires c = place_low _ c.requires _ (end_place _ _ _ c.places-p-end.ensures c.loop-p-test.true)

pub returns-in-Some : goal.returns-in-Some
returns-in-Some c = born_here _ _ _ _ _ c.in-Some.ensures c.entry.ensures

pub loop-p-preserved : goal.loop-p-preserved
loop-p-preserved c = unborn_on _ _ _ c.loop-p.invariant c.in_default.ensures

pub returns : goal.returns
returns c = unborn_all _ _ _ _ c.places-p-end.ensures c.loop-p-test.false c.loop-p.invariant

-- `links::collecting::collect` meets its contract.
use Rattle.std.proofs.Common.{arith}
use Rattle.reading.proofs.FlightReads.{end_place}
use Rattle.reading.proofs.StateReads.{places_few}
use Rattle.links.proofs.LinkAdds.{place_none, place_more, adds_most}
use Rattle.links.proofs.LinkWhole.{place_all}
use Rattle.links.proofs.collecting.collect.Goals as goal

pub loop-p-init : goal.loop-p-init
loop-p-init g c = place_none _ _ _

pub collect_place-requires : goal.collect_place-requires
collect_place-requires g c =
    let few = places_few _ c.requires.0 _ c.places-p-end.ensures in
    (c.requires.0, end_place _ _ _ c.places-p-end.ensures c.loop-p-test.true, omega (arith, few, c.loop-p.invariant.high, c.requires.1))

pub loop-p-preserved : goal.loop-p-preserved
loop-p-preserved g c = adds_most (omega arith) (place_more _ _ _ _ _ _ _ _ c.loop-p.invariant c.collect_place.ensures)

pub returns : goal.returns
returns g c =
    let few = places_few _ c.requires.0 _ c.places-p-end.ensures in
    adds_most (omega (arith, few)) (place_all _ _ g.met.S.Sort.inside _ _ _ _ _ c.places-p-end.ensures c.loop-p-test.false c.loop-p.invariant)

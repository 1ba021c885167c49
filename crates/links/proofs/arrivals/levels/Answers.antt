-- `links::arrivals::levels` meets its contract.
use Rattle.std.proofs.Common.{◌+◌, sym, subst₂, set, arith}
use Rattle.reading.proofs.FlightReads.{end_place}
use Rattle.reading.proofs.StateReads.{places_few, entries_few}
use Rattle.links.proofs.LinkWhole.{Filled, filled_start, filled_more, filled_done, come_low}
use Rattle.links.proofs.arrivals.levels.Goals as goal

pub loop-p-init : goal.loop-p-init
loop-p-init c = (places_few _ c.requires _ c.places-p-end.ensures, filled_start _)

pub entry_count-requires : goal.entry_count-requires
entry_count-requires c = (c.requires, end_place _ _ _ c.places-p-end.ensures c.loop-p-test.true)

pub come_count-requires : goal.come_count-requires
come_count-requires c = (c.requires, end_place _ _ _ c.places-p-end.ensures c.loop-p-test.true)

pub loop-p-preserved : goal.loop-p-preserved
loop-p-preserved c =
    let l = c.loop-p in
    let s = c.args.store.now in
    let image = c.requires in (
      l.invariant.0,
      subst₂ (λ x y. Filled s (l.p + 1) (set (set l.levels x c.entry_count.result) y c.come_count.result)) (sym c.entries_line.ensures) (sym c.deliveries_line.ensures)
          (filled_more _ l.p _ _ l.levels l.invariant.1 (omega arith) (entries_few _ image _ _ c.entry_count.ensures) (come_low _ image _ _ c.come_count.ensures) c.entry_count.ensures c.come_count.ensures),
    )

pub returns : goal.returns
returns c = filled_done _ _ _ _ c.places-p-end.ensures c.loop-p-test.false c.loop-p.invariant.1

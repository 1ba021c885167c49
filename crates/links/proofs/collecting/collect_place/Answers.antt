-- `links::collecting::collect_place` meets its contract.
use Rattle.std.proofs.Common.{arith}
use Rattle.reading.proofs.MailReads.{end_entry}
use Rattle.reading.proofs.StateReads.{entries_few}
use Rattle.links.proofs.LinkAdds.{below_none, below_more, below_all, adds_most}
use Rattle.links.proofs.collecting.collect_place.Goals as goal

pub loop-i-init : goal.loop-i-init
loop-i-init g c = below_none _ _ _ _

pub collect_entry-requires : goal.collect_entry-requires
collect_entry-requires g c =
    let few = entries_few _ c.requires.0 _ _ c.entry_count-i-end.ensures in
    (c.requires.0, end_entry _ _ _ _ c.entry_count-i-end.ensures c.loop-i-test.true, omega (arith, few, c.loop-i.invariant.high, c.requires.2))

pub loop-i-preserved : goal.loop-i-preserved
loop-i-preserved g c = adds_most (omega arith) (below_more _ _ _ _ _ _ _ _ _ c.loop-i.invariant c.collect_entry.ensures)

pub returns : goal.returns
returns g c =
    let few = entries_few _ c.requires.0 _ _ c.entry_count-i-end.ensures in
    adds_most (omega (arith, few)) (below_all _ _ c.args.p _ _ _ _ _ (g.met.S.Sort.inside c.args.p) c.entry_count-i-end.ensures c.loop-i-test.false c.loop-i.invariant)

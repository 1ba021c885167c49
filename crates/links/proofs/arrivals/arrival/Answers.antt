-- `links::arrivals::arrival` meets its contract.
use Rattle.std.proofs.Common.{◌≡◌, sym, subst, arith}
use Rattle.reading.proofs.MailReads.{end_entry}
use Rattle.reading.proofs.StateReads.{entries_few}
use Rattle.reading.specs.Reads.{OfState}
use Rattle.links.specs.Listed.{PlaceFrom, ArrivalIs}
use Rattle.links.proofs.ArrivalReads.{LeftIs, Unshown, left_start, unshown_start, left_more, unshown_more, shown_here, queued_here, queued_nowhere}
use Rattle.links.proofs.LinkWhole.{entry_upto, end_upto}
use Rattle.links.proofs.arrivals.arrival.Goals as goal

pub loop-i-init : goal.loop-i-init
loop-i-init c = (left_start _ _, unshown_start _ _ _)

pub queue_before-requires : goal.queue_before-requires
queue_before-requires c = (c.requires.0, end_entry _ _ _ _ c.entry_count-end.ensures c.loop-i-test.true)

pub recs_before-requires : goal.recs_before-requires
recs_before-requires c = (c.requires.0, entry_upto _ _ _ (end_entry _ _ _ _ c.entry_count-end.ensures c.loop-i-test.true))

pub overflow_add-result : goal.overflow_add-result
overflow_add-result c = let g = entries_few _ c.requires.0 _ _ c.entry_count-end.ensures in omega (arith, c.in-Some.ensures.1, g, c.recs_before.ensures.1)

pub returns-in-Some : goal.returns-in-Some
returns-in-Some c = shown_here _ _ _ _ _ _ (end_entry _ _ _ _ c.entry_count-end.ensures c.loop-i-test.true) c.loop-i.invariant.0 c.queue_before.ensures _ _ c.in-Some.ensures c.recs_before.ensures.0

pub left_at-left-requires : goal.left_at-left-requires
left_at-left-requires c = (c.requires.0, end_entry _ _ _ _ c.entry_count-end.ensures c.loop-i-test.true)

pub loop-i-preserved : goal.loop-i-preserved
loop-i-preserved c =
    let there = end_entry _ _ _ _ c.entry_count-end.ensures c.loop-i-test.true in
    let l = c.loop-i in (
      left_more _ _ _ _ c.args.name _ there l.invariant.0 c.queue_before.ensures _ c.left_at-left.ensures,
      unshown_more _ _ _ _ _ _ there l.invariant.0 c.queue_before.ensures l.invariant.1 c.in_default.ensures,
    )

pub returns-in_err-j : goal.returns-in_err-j
returns-in_err-j c =
    let s = c.args.store.now in
    let a = c.args in
    let l = c.loop-i in
    let e : l.i ≡ c.entry_count-end.result = omega arith in
    let none = queued_nowhere s a.q c.entry_count-end.result l.left a.name _ c.entry_count-end.ensures (subst (λ k. LeftIs s a.q k l.left) e l.invariant.0) c.queue.ensures
    (subst (λ k. Unshown s a.q k a.name) e l.invariant.1) (subst (PlaceFrom c.queue.result.now l.left a.name) c.in_err-j.was c.place_from-2.ensures) in
    subst (λ r. OfState s (ArrivalIs a.q a.name r)) (sym c.from_residual.ensures) none

pub recs_before-requires-2 : goal.recs_before-requires-2
recs_before-requires-2 c = (c.requires.0, end_upto _ _ _ c.entry_count-end.ensures)

pub overflow_add-result-2 : goal.overflow_add-result-2
overflow_add-result-2 c =
    let f = subst (PlaceFrom c.queue.result.now c.loop-i.left c.args.name) c.in_ok-j.was c.place_from-2.ensures in
    let g = entries_few _ c.requires.0 _ _ c.entry_count-end.ensures in
    omega (arith, f.1, g, c.recs_before-2.ensures.1)

pub returns : goal.returns
returns c =
    let s = c.args.store.now in
    let a = c.args in
    let l = c.loop-i in
    let e : l.i ≡ c.entry_count-end.result = omega arith in
    queued_here s a.q _ l.left a.name _ c.entry_count-end.ensures (subst (λ k. LeftIs s a.q k l.left) e l.invariant.0) c.queue.ensures _ _
    (subst (PlaceFrom c.queue.result.now l.left a.name) c.in_ok-j.was c.place_from-2.ensures) c.recs_before-2.ensures.0

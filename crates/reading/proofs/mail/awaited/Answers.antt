-- `awaited` meets its contract.
use native.Mathlib.Omega.{arith}
use Rattle.reading.proofs.FlightReads.{end_place, calm_start, calm_more, awaited_here, awaited_none}
use Rattle.reading.proofs.StateReads.{place_low}
use Rattle.reading.proofs.mail.awaited.Goals as goal

pub loop-s-init : goal.loop-s-init
loop-s-init c = calm_start _ _

pub overflow_cast-q : goal.overflow_cast-q
overflow_cast-q c = omega (arith, place_low _ c.requires.0 _ c.requires.1)

pub awaited_from-requires : goal.awaited_from-requires
awaited_from-requires c = (c.requires.0, end_place _ _ _ c.places-s-end.ensures c.loop-s-test.true, c.requires.1)

pub returns-then-awaited_from : goal.returns-then-awaited_from
returns-then-awaited_from c = awaited_here _ _ _ _ c.awaited_from.ensures c.if-awaited_from.true (end_place _ _ _ c.places-s-end.ensures c.loop-s-test.true)

pub loop-s-preserved : goal.loop-s-preserved
loop-s-preserved c = calm_more _ _ _ _ c.awaited_from.ensures c.if-awaited_from.false c.loop-s.invariant

pub returns : goal.returns
returns c = awaited_none _ _ _ _ c.places-s-end.ensures c.loop-s.invariant (omega arith) (omega arith)

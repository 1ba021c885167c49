-- `awaited_from` meets its contract.
use native.Mathlib.Omega.{arith}
use Rattle.reading.proofs.FlightReads.{quiet_start, name_start, quiet_more, flies_found, name_more, name_low, quiet_all}
use Rattle.reading.proofs.StateReads.{place_low}
use Rattle.reading.proofs.MailReads.{end_entry, here_low}
use Rattle.reading.proofs.mail.awaited_from.Goals as goal

pub overflow_cast-name : goal.overflow_cast-name
overflow_cast-name c = omega (arith, place_low _ c.requires.0 _ c.requires.1)

pub overflow_mul-name : goal.overflow_mul-name
overflow_mul-name c = omega (arith, place_low _ c.requires.0 _ c.requires.1)

pub loop-i-init : goal.loop-i-init
loop-i-init c = (name_start _ _, quiet_start _ _ _)

pub flies_to-requires : goal.flies_to-requires
flies_to-requires c = (c.requires.0, (end_entry _ _ _ _ c.entry_count-i-end.ensures c.loop-i-test.true), c.requires.2, c.loop-i.invariant.0)

pub returns-then-flies_to : goal.returns-then-flies_to
returns-then-flies_to c = flies_found _ _ _ _ _ (end_entry _ _ _ _ c.entry_count-i-end.ensures c.loop-i-test.true) c.flies_to.ensures c.if-flies_to.true

pub send_at-name-requires : goal.send_at-name-requires
send_at-name-requires c = (c.requires.0, (end_entry _ _ _ _ c.entry_count-i-end.ensures c.loop-i-test.true))

pub overflow_add-name : goal.overflow_add-name
overflow_add-name c = omega (arith, name_low _ _ _ _ c.requires.0 c.requires.1 c.loop-i.invariant.0, here_low _ _ _ _ (end_entry _ _ _ _ c.entry_count-i-end.ensures c.loop-i-test.true) c.send_at-name.ensures c.requires.0)

pub loop-i-preserved : goal.loop-i-preserved
loop-i-preserved c = (name_more _ _ _ _ _ (end_entry _ _ _ _ c.entry_count-i-end.ensures c.loop-i-test.true) c.send_at-name.ensures c.loop-i.invariant.0, quiet_more _ _ _ _ _ (end_entry _ _ _ _ c.entry_count-i-end.ensures c.loop-i-test.true) c.flies_to.ensures c.if-flies_to.false c.loop-i.invariant.1)

pub returns : goal.returns
returns c = quiet_all _ _ _ _ _ c.entry_count-i-end.ensures c.loop-i.invariant.1 (omega arith) (omega arith)

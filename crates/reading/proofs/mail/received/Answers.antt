-- `received` meets its contract.
use native.Mathlib.Omega.{arith}
use Rattle.reading.proofs.MailReads.{end_entry, received_start, received_here, received_next, received_none}
use Rattle.reading.proofs.mail.received.Goals as goal

pub loop-i-init : goal.loop-i-init
loop-i-init c = received_start _ _ _

pub took-requires : goal.took-requires
took-requires c = (c.requires.0, end_entry _ _ _ _ c.entry_count-i-end.ensures c.loop-i-test.true)

pub returns-then-took : goal.returns-then-took
returns-then-took c = received_here _ _ _ _ _ (end_entry _ _ _ _ c.entry_count-i-end.ensures c.loop-i-test.true) c.took.ensures c.if-took.true

pub loop-i-preserved : goal.loop-i-preserved
loop-i-preserved c = received_next _ _ _ _ _ (end_entry _ _ _ _ c.entry_count-i-end.ensures c.loop-i-test.true) c.took.ensures c.if-took.false c.loop-i.invariant

pub returns : goal.returns
returns c = received_none _ _ _ _ _ c.entry_count-i-end.ensures c.loop-i.invariant (omega arith) (omega arith)

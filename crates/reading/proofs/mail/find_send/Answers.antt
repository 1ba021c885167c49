-- `find_send` meets its contract.
use native.Mathlib.Omega.{arith}
use Rattle.reading.proofs.MailReads.{end_entry, left_start, left_more, found_here, found_none}
use Rattle.reading.proofs.mail.find_send.Goals as goal

pub loop-i-init : goal.loop-i-init
loop-i-init c = left_start _ _ _

pub send_at-here-requires : goal.send_at-here-requires
send_at-here-requires c = (c.requires.0, end_entry _ _ _ _ c.entry_count-i-end.ensures c.loop-i-test.true)

pub returns-then-left-here : goal.returns-then-left-here
returns-then-left-here c = found_here _ _ _ _ (end_entry _ _ _ _ c.entry_count-i-end.ensures c.loop-i-test.true) c.send_at-here.ensures _ _ c.loop-i.invariant c.if-left-here.true

pub loop-i-preserved : goal.loop-i-preserved
loop-i-preserved c = left_more _ _ _ _ (end_entry _ _ _ _ c.entry_count-i-end.ensures c.loop-i-test.true) c.send_at-here.ensures _ _ c.loop-i.invariant c.if-left-here.false

pub returns : goal.returns
returns c = found_none _ _ _ _ _ _ c.entry_count-i-end.ensures c.loop-i.invariant (omega arith) (omega arith)

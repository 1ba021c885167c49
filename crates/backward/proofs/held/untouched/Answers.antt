-- `untouched` meets its contract.
use Rattle.reading.proofs.StateReads.{lives_place}
use Rattle.backward.proofs.FlyingLaws.{untouched_not, untouched_queued, untouched_awaited}
use Rattle.backward.proofs.held.untouched.Goals as goal

pub entry_count-requires : goal.entry_count-requires
entry_count-requires c = let pre = c.requires in (pre.0, lives_place _ _ pre.1)

pub returns-then-entry_count-gt0 : goal.returns-then-entry_count-gt0
returns-then-entry_count-gt0 c = untouched_not _ _ c.requires.1 _ c.entry_count.ensures c.if-entry_count-gt0.true

pub queue-requires : goal.queue-requires
queue-requires c = let pre = c.requires in (pre.0, lives_place _ _ pre.1)

pub returns-then-queue-gt0 : goal.returns-then-queue-gt0
returns-then-queue-gt0 c = untouched_queued _ _ c.requires.1 _ c.entry_count.ensures _ c.queue.ensures c.if-queue-gt0.true

pub awaited-requires : goal.awaited-requires
awaited-requires c = let pre = c.requires in (pre.0, lives_place _ _ pre.1)

pub returns : goal.returns
returns c = untouched_awaited _ _ c.requires.1 _ c.entry_count.ensures _ c.queue.ensures c.if-entry_count-gt0.false c.if-queue-gt0.false _ c.awaited.ensures

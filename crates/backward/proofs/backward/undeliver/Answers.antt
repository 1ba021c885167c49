-- `undeliver` meets its contract.
use Rattle.calls.proofs.Answering.{call_does, call_ready, call_refuses}
use Rattle.backward.proofs.AnswerLaws.{pool_place, undeliver_no_process, undeliver_nothing, undeliver_held, undeliver_can, undeliver_done}
use Rattle.backward.proofs.backward.undeliver.Goals as goal

pub returns-then-not-sound : goal.returns-then-not-sound
returns-then-not-sound c = call_refuses _ _ c.sound.ensures _ c.if-not-sound.true

pub returns-then-not-in_pool : goal.returns-then-not-in_pool
returns-then-not-in_pool c = call_does _ _ c.sound.ensures _ _ _ c.if-not-sound.false (undeliver_no_process _ _ _ c.in_pool.ensures c.if-not-in_pool.true)

pub queue-queued-requires : goal.queue-queued-requires
queue-queued-requires c = (call_ready _ _ c.sound.ensures c.if-not-sound.false, pool_place _ _ _ c.in_pool.ensures c.if-not-in_pool.false)

pub returns-then-queued-eq0 : goal.returns-then-queued-eq0
returns-then-queued-eq0 c =
    call_does _ _ c.sound.ensures _ _ _ c.if-not-sound.false
    (undeliver_nothing _ _ _ c.in_pool.ensures c.if-not-in_pool.false _ c.queue-queued.ensures c.if-queued-eq0.true)

pub left-requires : goal.left-requires
left-requires c = (call_ready _ _ c.sound.ensures c.if-not-sound.false, pool_place _ _ _ c.in_pool.ensures c.if-not-in_pool.false)

pub returns-then-queued-left : goal.returns-then-queued-left
returns-then-queued-left c =
    call_does _ _ c.sound.ensures _ _ _ c.if-not-sound.false
    (undeliver_held _ _ _ c.in_pool.ensures c.if-not-in_pool.false _ c.queue-queued.ensures c.if-queued-eq0.false _ c.left.ensures c.if-queued-left.true)

pub unpost-requires : goal.unpost-requires
unpost-requires c = (
  call_ready _ _ c.sound.ensures c.if-not-sound.false,
  undeliver_can _ _ _ c.in_pool.ensures c.if-not-in_pool.false _ c.queue-queued.ensures c.if-queued-eq0.false _ c.left.ensures c.if-queued-left.false,
)

pub returns : goal.returns
returns c =
    call_does _ _ c.sound.ensures _ _ _ c.if-not-sound.false
    (undeliver_done _ _ _ c.in_pool.ensures c.if-not-in_pool.false _ c.queue-queued.ensures c.if-queued-eq0.false _ c.left.ensures c.if-queued-left.false _ c.unpost.ensures)

-- `back` meets its contract.
use Rattle.calls.proofs.Answering.{call_does, call_ready, call_refuses}
use Rattle.backward.proofs.AnswerLaws.{pool_place, back_no_process, back_nothing, back_newest, back_held, back_can, back_done}
use Rattle.backward.proofs.backward.back.Goals as goal

pub returns-then-not-sound : goal.returns-then-not-sound
returns-then-not-sound c = call_refuses _ _ c.sound.ensures _ c.if-not-sound.true

pub returns-then-not-in_pool : goal.returns-then-not-in_pool
returns-then-not-in_pool c = call_does _ _ c.sound.ensures _ _ _ c.if-not-sound.false (back_no_process _ _ _ c.in_pool.ensures c.if-not-in_pool.true)

pub entry_count-count-requires : goal.entry_count-count-requires
entry_count-count-requires c = (call_ready _ _ c.sound.ensures c.if-not-sound.false, pool_place _ _ _ c.in_pool.ensures c.if-not-in_pool.false)

pub returns-then-count-eq0 : goal.returns-then-count-eq0
returns-then-count-eq0 c =
    call_does _ _ c.sound.ensures _ _ _ c.if-not-sound.false
    (back_nothing _ _ _ c.in_pool.ensures c.if-not-in_pool.false _ c.entry_count-count.ensures c.if-count-eq0.true)

pub may_undo-requires : goal.may_undo-requires
may_undo-requires c =
    (call_ready _ _ c.sound.ensures c.if-not-sound.false, back_newest _ _ _ c.in_pool.ensures c.if-not-in_pool.false _ c.entry_count-count.ensures c.if-count-eq0.false)

pub returns-then-not-may_undo : goal.returns-then-not-may_undo
returns-then-not-may_undo c =
    call_does _ _ c.sound.ensures _ _ _ c.if-not-sound.false
    (back_held _ _ _ c.in_pool.ensures c.if-not-in_pool.false _ c.entry_count-count.ensures c.if-count-eq0.false _ c.may_undo.ensures c.if-not-may_undo.true)

pub undo-requires : goal.undo-requires
undo-requires c = (
  call_ready _ _ c.sound.ensures c.if-not-sound.false,
  back_can _ _ _ c.in_pool.ensures c.if-not-in_pool.false _ c.entry_count-count.ensures c.if-count-eq0.false _ c.may_undo.ensures c.if-not-may_undo.false,
)

pub returns : goal.returns
returns c =
    call_does _ _ c.sound.ensures _ _ _ c.if-not-sound.false
    (back_done _ _ _ c.in_pool.ensures c.if-not-in_pool.false _ c.entry_count-count.ensures c.if-count-eq0.false _ c.may_undo.ensures c.if-not-may_undo.false _ c.undo.ensures)

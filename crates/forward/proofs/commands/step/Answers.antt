-- `step` meets its contract.
use native.Mathlib.Omega.{arith}
use Rattle.calls.proofs.Answering.{call_does, call_ready, call_refuses}
use Rattle.forward.proofs.Calling.{somebody, buffer_sized, buffer_length, words_few, step_nobody}
use Rattle.forward.proofs.commands.step.Goals as goal

pub returns-then-not-sound : goal.returns-then-not-sound
returns-then-not-sound c = call_refuses _ _ c.sound.ensures _ c.if-not-sound.true

pub returns-then-not-in_pool : goal.returns-then-not-in_pool
returns-then-not-in_pool c = call_does _ _ c.sound.ensures _ _ _ c.if-not-sound.false (step_nobody _ _ _ c.in_pool.ensures c.if-not-in_pool.true)

pub slice_bounds-row-end : goal.slice_bounds-row-end
slice_bounds-row-end c = words_few _ _ (call_ready _ _ c.sound.ensures c.if-not-sound.false) c.most_words-words.ensures

pub slice_bounds-step_live-end : goal.slice_bounds-step_live-end
slice_bounds-step_live-end c = buffer_length _ _ _ (call_ready _ _ c.sound.ensures c.if-not-sound.false) c.most_words-words.ensures (omega arith)

pub step_live-requires : goal.step_live-requires
step_live-requires c =
    let ready = call_ready _ _ c.sound.ensures c.if-not-sound.false in
    (ready, somebody _ _ _ c.in_pool.ensures c.if-not-in_pool.false, buffer_sized _ _ _ ready c.most_words-words.ensures (omega arith))

pub returns : goal.returns
returns c = call_does _ _ c.sound.ensures _ _ _ c.if-not-sound.false c.step_live.ensures

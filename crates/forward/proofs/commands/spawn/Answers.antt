-- `spawn` meets its contract.
use native.Mathlib.Omega.{arith}
use Rattle.calls.proofs.Answering.{call_does, call_ready, call_refuses}
use Rattle.forward.proofs.Calling.{somebody, buffer_sized, buffer_length, words_few, spawn_nobody}
use Rattle.forward.proofs.commands.spawn.Goals as goal

pub returns-then-not-sound : goal.returns-then-not-sound
returns-then-not-sound c = call_refuses _ _ c.sound.ensures _ c.if-not-sound.true

pub returns-then-not-in_pool : goal.returns-then-not-in_pool
returns-then-not-in_pool c = call_does _ _ c.sound.ensures _ _ _ c.if-not-sound.false (spawn_nobody _ _ _ c.in_pool.ensures _ c.if-not-in_pool.true)

pub slice_bounds-row-end : goal.slice_bounds-row-end
slice_bounds-row-end c = words_few _ _ (call_ready _ _ c.sound.ensures c.if-not-sound.false) c.most_words-words.ensures

pub slice_bounds-spawn_live-end : goal.slice_bounds-spawn_live-end
slice_bounds-spawn_live-end c = buffer_length _ _ _ (call_ready _ _ c.sound.ensures c.if-not-sound.false) c.most_words-words.ensures (omega arith)

pub slice_bounds-first-end : goal.slice_bounds-first-end
slice_bounds-first-end c = words_few _ _ (call_ready _ _ c.sound.ensures c.if-not-sound.false) c.most_words-words.ensures

pub slice_bounds-spawn_live-end-2 : goal.slice_bounds-spawn_live-end-2
slice_bounds-spawn_live-end-2 c = buffer_length _ _ _ (call_ready _ _ c.sound.ensures c.if-not-sound.false) c.most_words-words.ensures (omega arith)

pub spawn_live-requires : goal.spawn_live-requires
spawn_live-requires c =
    let ready = call_ready _ _ c.sound.ensures c.if-not-sound.false in
    let words = c.most_words-words.ensures in
    (ready, somebody _ _ _ c.in_pool.ensures c.if-not-in_pool.false, buffer_sized _ _ _ ready words (omega arith), buffer_sized _ _ _ ready words (omega arith))

pub returns : goal.returns
returns c = call_does _ _ c.sound.ensures _ _ _ c.if-not-sound.false c.spawn_live.ensures

-- `bear_place` meets its contract.
use mathlib.Core.Path.{refl, sym, ◌∙◌}
use native.Mathlib.Omega.{arith}
use borrow.Author.Rules.{rules}
use Rattle.slots.specs.SoundTests.{bear_place}
use Rattle.slots.proofs.Chunks.{going_behind, going_first, going_next, going_out, going_done}
use Rattle.slots.proofs.SoundTestRun.{run_yes, run_out, run_done}
use Rattle.slots.proofs.sound_births.bear_place.Goals as goal

pub loop-slot-init : goal.loop-slot-init
unfolding bear_place
loop-slot-init c =
    let a = c.args in
    (refl, going_behind a.sizes.slot _ _ a.sizes.entries a.block.now _ (search rules) (search rules) (omega (arith, a.sizes.slot_is)) c.requires.1.long c.requires.1.names_fit refl)

pub bear_slot-requires : goal.bear_slot-requires
bear_slot-requires c =
    let fits = going_first _ _ _ c.loop-slot.slot-iterator c.next.new.self c.loop-slot.invariant.1 c.in-Some.slot c.in-Some.ensures.steps in
    (omega (arith, fits), c.requires.2 ∙ sym c.loop-slot.invariant.0)

pub returns-then-not-bear_slot : goal.returns-then-not-bear_slot
returns-then-not-bear_slot c = going_out _ _ _ c.loop-slot.slot-iterator c.next.new.self c.loop-slot.invariant.1 c.in-Some.slot c.in-Some.ensures.steps _ (λ others e. sym (e ∙ run_out _ _ others _ _ _ _ c.bear_slot.ensures c.if-not-bear_slot.true))

pub loop-slot-preserved : goal.loop-slot-preserved
loop-slot-preserved c = (search rules, going_next _ _ _ c.loop-slot.slot-iterator c.next.new.self c.loop-slot.invariant.1 c.in-Some.slot c.in-Some.ensures.steps _ (λ others e. e ∙ run_yes _ _ others _ _ _ c.bear_slot.ensures c.if-not-bear_slot.false))

pub returns : goal.returns
returns c = run_done _ _ ∙ sym (going_done _ _ _ c.loop-slot.slot-iterator c.next.new.self c.loop-slot.invariant.1 c.in-None.ensures.steps)

-- `arrive_taken` meets its contract.
use Prim.Native.Nat.{◌<◌}
use mathlib.Core.Path.{refl, sym, ◌∙◌}
use native.Mathlib.Omega.{arith}
use borrow.Author.Rules.{rules}
use Rattle.slots.proofs.Chunks.{slot_some, going_behind, going_first, going_next, going_out, going_done}
use Rattle.slots.proofs.SoundTestRun.{run_yes, run_out, run_done}
use Rattle.soundness.specs.MessageTests.{arrive_taken}
use Rattle.soundness.proofs.messages.arrive_taken.Goals as goal
use Rattle.soundness.proofs.messages.arrive_taken.Goals.{Start}

-- the block has a head, so its slots have words
sized : (c : Start) → 0 < c.args.sizes.slot
sized c = let a = c.args in slot_some a.sizes.slot a.sizes.entries a.block.now (omega (arith, c.requires.0)) c.requires.2.long

pub chunks_exact-slot-items-requires : goal.chunks_exact-slot-items-requires
chunks_exact-slot-items-requires c = let some = sized (goal.at.chunks_exact-slot-items-requires c).Start in search rules

pub loop-slot-init-derived : goal.loop-slot-init-derived
loop-slot-init-derived c = let some = sized (goal.at.loop-slot-init-derived c).Start in search rules

pub loop-slot-init : goal.loop-slot-init
unfolding arrive_taken
loop-slot-init c =
    let a = c.args in
    (refl, going_behind a.sizes.slot _ _ a.sizes.entries a.block.now _ (search rules) (search rules) (sized (goal.at.loop-slot-init c).Start) c.requires.2.long c.requires.3 refl)

pub arrive_slot-requires : goal.arrive_slot-requires
arrive_slot-requires c = (
  going_first _ _ _ c.loop-slot.slot-iterator c.next.new.self c.loop-slot.invariant.1 c.in-Some.slot c.in-Some.ensures.steps,
  omega (arith, c.requires.4, c.loop-slot.invariant.0),
  c.requires.5,
  c.requires.6,
  c.requires.7,
)

pub returns-then-not-arrive_slot : goal.returns-then-not-arrive_slot
returns-then-not-arrive_slot c = going_out _ _ _ c.loop-slot.slot-iterator c.next.new.self c.loop-slot.invariant.1 c.in-Some.slot c.in-Some.ensures.steps _ (λ others e. sym (e ∙ run_out _ _ others _ _ _ _ c.arrive_slot.ensures c.if-not-arrive_slot.true))

pub loop-slot-preserved : goal.loop-slot-preserved
loop-slot-preserved c = (search rules, going_next _ _ _ c.loop-slot.slot-iterator c.next.new.self c.loop-slot.invariant.1 c.in-Some.slot c.in-Some.ensures.steps _ (λ others e. e ∙ run_yes _ _ others _ _ _ c.arrive_slot.ensures c.if-not-arrive_slot.false))

pub returns : goal.returns
returns c = run_done _ _ ∙ sym (going_done _ _ _ c.loop-slot.slot-iterator c.next.new.self c.loop-slot.invariant.1 c.in-None.ensures.steps)

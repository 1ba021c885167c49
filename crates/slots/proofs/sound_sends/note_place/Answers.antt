-- `note_place` meets its contract.
use Prim.Native.Nat.{◌<◌}
use mathlib.Core.Path.{refl, ◌∙◌}
use native.Mathlib.Omega.{arith}
use borrow.Author.Rules.{rules}
use lib.ListN.{length, drop, length-set}
use Rattle.lists.proofs.Blocks.{length_chop}
use Rattle.store.proofs.LayoutLaws.{slot_most}
use Rattle.slots.specs.SoundTests.{answered}
use Rattle.slots.proofs.Chunks.{going_behind, going_first, first_long, going_next, going_out, going_done}
use Rattle.slots.proofs.SendTest.{noting_start, noting_none, noting_one, noting_bad, noting_done}
use Rattle.slots.proofs.sound_sends.note_place.Goals as goal
use Rattle.slots.proofs.sound_sends.note_place.Goals.{In-Some}

-- the table has a place for one more
in_table : (c : In-Some) → c.loop-slot.k < length c.loop-slot.targets
in_table c = going_out _ _ _ c.loop-slot.slot-iterator c.next.new.self c.loop-slot.invariant.1 c.in-Some.slot c.in-Some.ensures.steps _ (λ others e. omega (arith, e.0, c.loop-slot.invariant.0, c.requires.4))

pub loop-slot-init : goal.loop-slot-init
loop-slot-init c =
    let a = c.args in
    let behind_first = drop a.sizes.slot a.block.now in (
      refl,
      going_behind a.sizes.slot _ _ a.sizes.entries a.block.now _ (search rules) (search rules) (omega (arith, a.sizes.slot_is)) c.requires.1.long c.requires.2
          (omega (arith, length_chop a.sizes.entries a.sizes.slot behind_first), noting_start a.live.now _ a.at a.targets.now),
    )

pub slot_sends-requires : goal.slot_sends-requires
slot_sends-requires c =
    let l = c.loop-slot in
    let s = c.args.sizes in (
      going_first _ _ _ l.slot-iterator c.next.new.self l.invariant.1 c.in-Some.slot c.in-Some.ensures.steps,
      omega (arith, first_long _ _ _ l.slot-iterator c.next.new.self l.invariant.1 c.in-Some.slot c.in-Some.ensures.steps, s.slot_is, slot_most _ s.good),
    )

pub returns-in-Bad : goal.returns-in-Bad
unfolding answered
returns-in-Bad c = going_out _ _ _ c.loop-slot.slot-iterator c.next.new.self c.loop-slot.invariant.1 c.in-Some.slot c.in-Some.ensures.steps _ (λ others e. record { same = λ module' ready. noting_bad _ _ _ _ _ _ _ others e.1 _ c.slot_sends.ensures module' ready c.in-Bad.is })

pub loop-slot-preserved-in-No : goal.loop-slot-preserved-in-No
loop-slot-preserved-in-No c = (c.loop-slot.invariant.0, going_next _ _ _ c.loop-slot.slot-iterator c.next.new.self c.loop-slot.invariant.1 c.in-Some.slot c.in-Some.ensures.steps _ (λ others e. (omega (arith, e.0), noting_none _ _ _ _ _ _ _ others e.1 _ c.slot_sends.ensures c.in-No.is)))

pub overflow_add-targets : goal.overflow_add-targets
overflow_add-targets c = let h = c.slot_sends.ensures.small _ c.in-To.is in let p = c.requires.3 in record { fits = omega arith }

pub offset_bounds-targets-k : goal.offset_bounds-targets-k
offset_bounds-targets-k c = omega (arith, in_table (goal.at.offset_bounds-targets-k c).In-Some)

pub bounds-targets-k : goal.bounds-targets-k
bounds-targets-k c = in_table (goal.at.bounds-targets-k c).In-Some

pub overflow_add-k : goal.overflow_add-k
overflow_add-k c = omega (arith, in_table (goal.at.overflow_add-k c).In-Some)

pub loop-slot-preserved : goal.loop-slot-preserved
loop-slot-preserved c = (
  length-set c.loop-slot.targets c.loop-slot.k _ ∙ c.loop-slot.invariant.0,
  going_next _ _ _ c.loop-slot.slot-iterator c.next.new.self c.loop-slot.invariant.1 c.in-Some.slot c.in-Some.ensures.steps _ (λ others e. (omega (arith, e.0), noting_one _ _ _ _ _ _ _ others e.1 _ c.slot_sends.ensures _ c.in-To.is)),
)

pub returns : goal.returns
unfolding answered
returns c = let e = going_done _ _ _ c.loop-slot.slot-iterator c.next.new.self c.loop-slot.invariant.1 c.in-None.ensures.steps in record { same = λ module' ready. noting_done _ _ _ _ _ _ e.1 module' ready }

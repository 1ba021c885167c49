-- `note_places` meets its contract.
use Prim.Native.Nat.{ℕ, ◌+◌, ◌*◌, ◌≤◌}
use mathlib.Core.Path.{refl, ap}
use native.Mathlib.Nat.{suc-mul}
use native.Mathlib.Omega.{arith}
use borrow.Author.Rules.{rules}
use lib.ListN.{length}
use Rattle.lists.proofs.Blocks.{length_chop}
use Rattle.slots.proofs.Chunks.{going_start, going_first, going_next, going_out, going_done}
use Rattle.slots.proofs.SendTest.{from_start, from_next, from_bad, from_done}
use Rattle.slots.proofs.sound_sends.note_places.Goals as goal
use Rattle.slots.proofs.sound_sends.note_places.Goals.{In-Some}

-- the table has a row for one place more
in_table : (c : In-Some) → c.loop-block.at + c.args.sizes.entries ≤ length c.loop-block.targets
in_table c = going_out _ _ _ c.loop-block.block-iterator c.next.new.self c.loop-block.invariant.1 c.in-Some.block c.in-Some.ensures.steps _ (λ others e. omega (arith, e.0, suc-mul (length others) c.args.sizes.entries, c.loop-block.invariant.0, c.requires.3))

pub loop-block-init : goal.loop-block-init
loop-block-init c =
    let s = c.args.sizes in (
      refl,
      going_start s.block _ _ s.places c.args.blocks.now _ (search rules) (search rules) (search rules) c.requires.0 c.requires.1
          (omega (arith, ap (λ (n : ℕ). n * s.entries) (length_chop s.places s.block c.args.blocks.now)), from_start _ _ _ _ _),
    )

pub note_place-requires : goal.note_place-requires
note_place-requires c =
    let block = going_first _ _ _ c.loop-block.block-iterator c.next.new.self c.loop-block.invariant.1 c.in-Some.block c.in-Some.ensures.steps in
    (block.block.first_fits, block.block.slots, block.controls, c.requires.2, in_table (goal.at.note_place-requires c).In-Some)

pub returns-then-not-note_place : goal.returns-then-not-note_place
returns-then-not-note_place c = going_out _ _ _ c.loop-block.block-iterator c.next.new.self c.loop-block.invariant.1 c.in-Some.block c.in-Some.ensures.steps _ (λ others e. from_bad _ _ _ _ _ _ _ _ others e.1 _ _ c.note_place.ensures _ c.if-not-note_place.true)

pub overflow_add-at : goal.overflow_add-at
overflow_add-at c = omega (arith, in_table (goal.at.overflow_add-at c).In-Some)

pub loop-block-preserved : goal.loop-block-preserved
loop-block-preserved c = (
  search rules,
  going_next _ _ _ c.loop-block.block-iterator c.next.new.self c.loop-block.invariant.1 c.in-Some.block c.in-Some.ensures.steps _ (λ others e. (omega (arith, e.0, suc-mul (length others) c.args.sizes.entries), from_next _ _ _ _ _ _ _ _ others e.1 _ _ c.note_place.ensures c.if-not-note_place.false)),
)

pub returns : goal.returns
returns c = let e = going_done _ _ _ c.loop-block.block-iterator c.next.new.self c.loop-block.invariant.1 c.in-None.ensures.steps in from_done _ _ _ _ _ _ _ e.1

-- `place_flows` meets its contract.
use Prim.Native.Nat.{◌<◌}
use mathlib.Core.Bool.{not}
use mathlib.Core.Path.{refl, ◌∙◌, ap}
use native.Mathlib.Omega.{arith}
use borrow.Author.Rules.{rules}
use Rattle.prefixes.specs.Prefixes.{left_begins}
use Rattle.slots.specs.SoundTests.{NamesFit}
use Rattle.slots.proofs.Chunks.{slot_some, going_behind, going_first, going_next, going_out, going_done}
use Rattle.soundness.proofs.FlowTest.{going_rec, going_other, going_breaks, going_ends, present_names}
use Rattle.soundness.proofs.flows.place_flows.Goals as goal
use Rattle.soundness.proofs.flows.place_flows.Goals.{Start, In-Some}

-- the block has a head, so its slots have words
sized : (c : Start) → 0 < c.args.sizes.slot
sized c = let a = c.args in slot_some a.sizes.slot a.sizes.entries a.block.now (omega (arith, c.requires.0)) c.requires.2.long

pub chunks_exact-slot-items-requires : goal.chunks_exact-slot-items-requires
chunks_exact-slot-items-requires c = let some = sized (goal.at.chunks_exact-slot-items-requires c).Start in search rules

pub loop-slot-init-derived : goal.loop-slot-init-derived
loop-slot-init-derived c = let some = sized (goal.at.loop-slot-init-derived c).Start in search rules

pub loop-slot-init : goal.loop-slot-init
loop-slot-init c =
    let a = c.args in
    going_behind a.sizes.slot _ _ a.sizes.entries a.block.now _ (search rules) (search rules) (sized (goal.at.loop-slot-init c).Start) c.requires.2.long c.requires.2.names_fit refl

-- in a turn: the slot's names stand in it
fits : (c : In-Some) → NamesFit c.args.sizes.words c.in-Some.slot.now
fits c = going_first _ _ _ c.loop-slot.slot-iterator c.next.new.self c.loop-slot.invariant c.in-Some.slot c.in-Some.ensures.steps

pub bounds-slot-4 : goal.bounds-slot-4
bounds-slot-4 c = omega (arith, fits (goal.at.bounds-slot-4 c).In-Some)

pub slice_bounds-names-end : goal.slice_bounds-names-end
slice_bounds-names-end c = fits (goal.at.slice_bounds-names-end c).In-Some

pub bounds-slot-2 : goal.bounds-slot-2
bounds-slot-2 c = omega (arith, fits (goal.at.bounds-slot-2 c).In-Some)

pub returns-then-not-left_begins : goal.returns-then-not-left_begins
returns-then-not-left_begins c =
    going_out _ _ _ c.loop-slot.slot-iterator c.next.new.self c.loop-slot.invariant c.in-Some.slot c.in-Some.ensures.steps _
    (λ others e. going_breaks _ _ _ _ _ others _ e c.if-slot-eq-REC.true _ c.left_begins.ensures (ap not c.if-not-left_begins.true))

pub loop-slot-preserved-then-slot-eq-REC : goal.loop-slot-preserved-then-slot-eq-REC
loop-slot-preserved-then-slot-eq-REC c =
    going_next _ _ _ c.loop-slot.slot-iterator c.next.new.self c.loop-slot.invariant c.in-Some.slot c.in-Some.ensures.steps _
    (λ others e. going_rec _ _ _ _ _ others _ e c.if-slot-eq-REC.true _ c.left_begins.ensures (ap not c.if-not-left_begins.false))

pub loop-slot-preserved : goal.loop-slot-preserved
loop-slot-preserved c =
    going_next _ _ _ c.loop-slot.slot-iterator c.next.new.self c.loop-slot.invariant c.in-Some.slot c.in-Some.ensures.steps _
    (λ others e. going_other _ _ _ _ _ others _ e c.if-slot-eq-REC.false)

pub returns : goal.returns
returns c =
    let e = going_done _ _ _ c.loop-slot.slot-iterator c.next.new.self c.loop-slot.invariant c.in-None.ensures.steps in
    going_ends _ _ c.args.sizes.words c.loop-slot.taken c.loop-slot.before.now _ e (c.left_begins-2.ensures ∙ ap (left_begins c.loop-slot.taken c.loop-slot.before.now) (present_names c.args.sizes.words c.args.block.now))

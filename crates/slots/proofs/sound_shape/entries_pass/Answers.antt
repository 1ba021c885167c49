-- `entries_pass` meets its contract.
use Prim.Native.Nat.{ℕ, ◌<◌}
use mathlib.Core.Path.{refl, sym, ◌∙◌, ap}
use native.Mathlib.Omega.{arith}
use borrow.Author.Rules.{rules}
use lib.ListN.{drop}
use Rattle.lists.proofs.Blocks.{chop}
use Rattle.slots.specs.SoundTests.{ControlFits, every_of, entry_passes, entries_pass}
use Rattle.slots.proofs.Chunks.{size_some, going_behind, going_first, going_next, going_out, going_done}
use Rattle.slots.proofs.SoundTestRun.{every_yes, every_no, every_done}
use Rattle.slots.proofs.sound_shape.entries_pass.Goals as goal
use Rattle.slots.proofs.sound_shape.entries_pass.Goals.{Else-sizes-eq0}

pub returns-then-sizes-eq0 : goal.returns-then-sizes-eq0
unfolding entries_pass every_of chop
returns-then-sizes-eq0 c = sym (ap (λ (n : ℕ). every_of (entry_passes c.args.places c.args.arities.now) (chop n c.args.sizes.slot (drop c.args.sizes.slot c.args.block.now))) c.if-sizes-eq0.true)

-- where there are entries, a slot has words
sized : (c : Else-sizes-eq0) → 0 < c.args.sizes.slot
sized c = size_some ControlFits (λ b fits. omega (arith, fits)) _ _ _ c.requires.2 c.if-sizes-eq0.false

pub chunks_exact-slot-items-requires : goal.chunks_exact-slot-items-requires
chunks_exact-slot-items-requires c = let some = sized (goal.at.chunks_exact-slot-items-requires c).Else-sizes-eq0 in search rules

pub loop-slot-init-derived : goal.loop-slot-init-derived
loop-slot-init-derived c = let some = sized (goal.at.loop-slot-init-derived c).Else-sizes-eq0 in search rules

pub loop-slot-init : goal.loop-slot-init
unfolding entries_pass
loop-slot-init c =
    let a = c.args in
    going_behind a.sizes.slot _ _ a.sizes.entries a.block.now _ (search rules) (search rules) (sized (goal.at.loop-slot-init c).Else-sizes-eq0) c.requires.1.long c.requires.2 refl

pub entry_passes-requires : goal.entry_passes-requires
entry_passes-requires c =
    let fits = going_first _ _ _ c.loop-slot.slot-iterator c.next.new.self c.loop-slot.invariant c.in-Some.slot c.in-Some.ensures.steps in
    (omega (arith, fits), fits)

pub returns-then-not-entry_passes : goal.returns-then-not-entry_passes
returns-then-not-entry_passes c = going_out _ _ _ c.loop-slot.slot-iterator c.next.new.self c.loop-slot.invariant c.in-Some.slot c.in-Some.ensures.steps _ (λ others e. sym (e ∙ every_no _ _ others _ c.entry_passes.ensures c.if-not-entry_passes.true))

pub loop-slot-preserved : goal.loop-slot-preserved
loop-slot-preserved c = going_next _ _ _ c.loop-slot.slot-iterator c.next.new.self c.loop-slot.invariant c.in-Some.slot c.in-Some.ensures.steps _ (λ others e. e ∙ every_yes _ _ others _ c.entry_passes.ensures c.if-not-entry_passes.false)

pub returns : goal.returns
returns c = sym (going_done _ _ _ c.loop-slot.slot-iterator c.next.new.self c.loop-slot.invariant c.in-None.ensures.steps ∙ every_done _)

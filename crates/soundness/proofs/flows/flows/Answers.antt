-- `flows` meets its contract.
use Prim.Native.Nat.{ℕ, ◌<◌}
use mathlib.Core.Path.{refl, sym, ◌∙◌, ap}
use native.Mathlib.Omega.{arith}
use borrow.Author.Rules.{rules}
use Rattle.lists.proofs.Blocks.{chop}
use Rattle.slots.specs.SoundTests.{Block, every_of}
use Rattle.slots.proofs.Chunks.{size_some, going_start, going_first, going_next, going_out, going_done}
use Rattle.slots.proofs.SoundTestRun.{every_yes, every_no, every_done}
use Rattle.soundness.specs.MessageTests.{place_flows}
use Rattle.soundness.proofs.flows.flows.Goals as goal
use Rattle.soundness.proofs.flows.flows.Goals.{Else-sizes-eq0}

pub returns-then-sizes-eq0 : goal.returns-then-sizes-eq0
unfolding every_of chop
returns-then-sizes-eq0 c = let s = c.args.sizes in sym (ap (λ (n : ℕ). every_of (place_flows s.words s.slot s.entries) (chop n s.block c.args.blocks.now)) c.if-sizes-eq0.true)

-- where there are places, a block has words
sized : (c : Else-sizes-eq0) → 0 < c.args.sizes.block
sized c = let s = c.args.sizes in size_some (Block s.words s.slot s.entries) (λ b block. omega (arith, block.present_fits)) _ _ _ c.requires.1 c.if-sizes-eq0.false

pub chunks_exact-block-items-requires : goal.chunks_exact-block-items-requires
chunks_exact-block-items-requires c = let some = sized (goal.at.chunks_exact-block-items-requires c).Else-sizes-eq0 in search rules

pub loop-block-init-derived : goal.loop-block-init-derived
loop-block-init-derived c = let some = sized (goal.at.loop-block-init-derived c).Else-sizes-eq0 in search rules

pub loop-block-init : goal.loop-block-init
loop-block-init c = going_start c.args.sizes.block _ _ c.args.sizes.places c.args.blocks.now _ (search rules) (search rules) (sized (goal.at.loop-block-init c).Else-sizes-eq0) c.requires.0 c.requires.1 refl

pub place_flows-requires : goal.place_flows-requires
place_flows-requires c =
    let block = going_first _ _ _ c.loop-block.block-iterator c.next.new.self c.loop-block.invariant c.in-Some.block c.in-Some.ensures.steps in
    (block.present_fits, block.first_fits, block.slots)

pub returns-then-not-place_flows : goal.returns-then-not-place_flows
unfolding place_flows
returns-then-not-place_flows c = going_out _ _ _ c.loop-block.block-iterator c.next.new.self c.loop-block.invariant c.in-Some.block c.in-Some.ensures.steps _ (λ others e. sym (e ∙ every_no _ _ others _ c.place_flows.ensures c.if-not-place_flows.true))

pub loop-block-preserved : goal.loop-block-preserved
unfolding place_flows
loop-block-preserved c = going_next _ _ _ c.loop-block.block-iterator c.next.new.self c.loop-block.invariant c.in-Some.block c.in-Some.ensures.steps _ (λ others e. e ∙ every_yes _ _ others _ c.place_flows.ensures c.if-not-place_flows.false)

pub returns : goal.returns
returns c = sym (going_done _ _ _ c.loop-block.block-iterator c.next.new.self c.loop-block.invariant c.in-None.ensures.steps ∙ every_done _)

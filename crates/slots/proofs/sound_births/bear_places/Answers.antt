-- `bear_places` meets its contract.
use mathlib.Core.Path.{refl, sym, ◌∙◌}
use borrow.Author.Rules.{rules}
use Rattle.slots.proofs.Chunks.{going_start, going_first, going_next, going_out, going_done}
use Rattle.slots.proofs.SoundTestRun.{run_yes, run_out, run_done}
use Rattle.slots.proofs.sound_births.bear_places.Goals as goal

pub loop-block-init : goal.loop-block-init
loop-block-init c = (refl, going_start c.args.sizes.block _ _ c.args.sizes.places c.args.blocks.now _ (search rules) (search rules) (search rules) c.requires.0 c.requires.1 refl)

pub bear_place-requires : goal.bear_place-requires
bear_place-requires c =
    let block = going_first _ _ _ c.loop-block.block-iterator c.next.new.self c.loop-block.invariant.1 c.in-Some.block c.in-Some.ensures.steps in
    (block.first_fits, block.slots, c.requires.2 ∙ sym c.loop-block.invariant.0)

pub returns-then-not-bear_place : goal.returns-then-not-bear_place
returns-then-not-bear_place c = going_out _ _ _ c.loop-block.block-iterator c.next.new.self c.loop-block.invariant.1 c.in-Some.block c.in-Some.ensures.steps _ (λ others e. sym (e ∙ run_out _ _ others _ _ _ _ c.bear_place.ensures c.if-not-bear_place.true))

pub loop-block-preserved : goal.loop-block-preserved
loop-block-preserved c = (search rules, going_next _ _ _ c.loop-block.block-iterator c.next.new.self c.loop-block.invariant.1 c.in-Some.block c.in-Some.ensures.steps _ (λ others e. e ∙ run_yes _ _ others _ _ _ c.bear_place.ensures c.if-not-bear_place.false))

pub returns : goal.returns
returns c = run_done _ _ ∙ sym (going_done _ _ _ c.loop-block.block-iterator c.next.new.self c.loop-block.invariant.1 c.in-None.ensures.steps)

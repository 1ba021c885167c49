-- `live_places` meets its contract.
use Prim.Native.Nat.{ℕ}
use mathlib.Core.Path.{◌≡◌, refl, sym, ◌∙◌, ap}
use mathlib.Core.Bool.{false}
use native.Mathlib.Omega.{arith}
use borrow.Author.Rules.{rules}
use lib.ListN.{replicate, length-set}
use Rattle.std.specs.Iterator.Adapters.{enumerate_source, enumerate_count}
use Rattle.lists.proofs.Blocks.{chop, length_chop}
use Rattle.slots.specs.SoundTests.{live_from}
use Rattle.store.proofs.SoundStates.{sizes_in_lem}
use Rattle.slots.proofs.Chunks.{any_all, going_start, going_next, going_out, going_done}
use Rattle.slots.proofs.SoundTestBirths.{live_next, live_done}
use Rattle.slots.proofs.sound_births.live_places.Goals as goal

pub loop-p-init : goal.loop-p-init
loop-p-init c =
    let s = c.args.sizes in
    let none : enumerate_count c.into_iter-p-iterator.result ≡ 0 = ap enumerate_count c.into_iter-p-iterator.ensures.into_iter_gives ∙ c.enumerate-p-items.ensures.count in
    going_start s.block _ _ s.places c.args.blocks.now (enumerate_source c.into_iter-p-iterator.result) (search rules) (search rules) (search rules) c.requires (any_all _)
    (omega (arith, none, length_chop s.places s.block c.args.blocks.now), refl, ap (λ (p : ℕ). live_from p (chop s.places s.block c.args.blocks.now) (replicate 16 false)) (sym none))

pub bounds-live-p : goal.bounds-live-p
bounds-live-p c =
    let l = c.loop-p in
    let s = c.in-Some.ensures.steps in
    going_out _ _ _ (enumerate_source l.p-iterator) (enumerate_source c.next.new.self) l.invariant c.in-Some.block s.0 _ (λ others e. omega (arith, e.0, s.1, (sizes_in_lem _ c.args.sizes.good).places_high))

pub loop-p-preserved : goal.loop-p-preserved
loop-p-preserved c =
    let l = c.loop-p in
    let s = c.in-Some.ensures.steps in
    going_next _ _ _ (enumerate_source l.p-iterator) (enumerate_source c.next.new.self) l.invariant c.in-Some.block s.0 _
    (λ others e. (omega (arith, e.0, s.2), length-set l.live c.in-Some.p _ ∙ e.1, live_next _ l.live _ _ c.in-Some.p c.in-Some.block.now others s.1 s.2 e.2))

pub returns : goal.returns
returns c =
    let l = c.loop-p in
    live_done _ l.live _ (going_done _ _ _ (enumerate_source l.p-iterator) (enumerate_source c.next.new.self) l.invariant c.in-None.ensures.steps.0).2

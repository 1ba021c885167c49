-- `messages` meets its contract.
use Prim.Native.Nat.{ℕ, ◌<◌}
use mathlib.Core.Path.{◌≡◌, refl, sym, ◌∙◌, ap}
use native.Mathlib.Omega.{arith}
use borrow.Author.Rules.{rules}
use Rattle.std.specs.Iterator.Adapters.{enumerate_source, enumerate_count}
use Rattle.lists.proofs.Blocks.{chop, length_chop}
use Rattle.slots.proofs.Chunks.{size_some, going_start, going_first, going_next, going_out, going_done}
use Rattle.slots.specs.SoundTests.{answered}
use Rattle.soundness.specs.MessageTests.{TakenBlock, arrive_from}
use Rattle.soundness.proofs.MessageTest.{from_yes, from_no, from_done}
use Rattle.soundness.proofs.messages.messages.Goals as goal
use Rattle.soundness.proofs.messages.messages.Goals.{Else-sizes-eq0, In-Some}

-- in a turn: the place is one of the store's
place_in : (c : In-Some) → c.in-Some.place < 16
place_in c =
    let l = c.loop-place in
    let s = c.in-Some.ensures.steps in
    going_out _ _ _ (enumerate_source l.place-iterator) (enumerate_source c.next.new.self) l.invariant.1 c.in-Some.block s.0 _ (λ others e. omega (arith, e.0, s.1, c.requires.3))

pub returns-then-sizes-eq0 : goal.returns-then-sizes-eq0
unfolding answered arrive_from chop
returns-then-sizes-eq0 c =
    let s = c.args.sizes in
    sym (ap (λ (n : ℕ). arrive_from s.words s.slot s.entries s.places s.entries 0 (chop n s.block c.args.blocks.now) c.args.targets.now) c.if-sizes-eq0.true)

-- where there are places, a block has words
sized : (c : Else-sizes-eq0) → 0 < c.args.sizes.block
sized c = let s = c.args.sizes in size_some (TakenBlock s.words s.slot s.entries) (λ b taken. omega (arith, taken.block.present_fits)) _ _ _ c.requires.1 c.if-sizes-eq0.false

pub chunks_exact-requires : goal.chunks_exact-requires
chunks_exact-requires c = let some = sized (goal.at.chunks_exact-requires c).Else-sizes-eq0 in search rules

pub loop-place-init-derived : goal.loop-place-init-derived
loop-place-init-derived c = let some = sized (goal.at.loop-place-init-derived c).Else-sizes-eq0 in search rules

pub loop-place-init : goal.loop-place-init
loop-place-init c =
    let s = c.args.sizes in
    let none : enumerate_count c.into_iter-place-iterator.result ≡ 0 = ap enumerate_count c.into_iter-place-iterator.ensures.into_iter_gives ∙ c.enumerate-place-items.ensures.count in (
      refl,
      going_start s.block _ _ s.places c.args.blocks.now (enumerate_source c.into_iter-place-iterator.result) (search rules) (search rules) (sized (goal.at.loop-place-init c).Else-sizes-eq0) c.requires.0 c.requires.1
          (omega (arith, none, length_chop s.places s.block c.args.blocks.now), ap (λ (p : ℕ). arrive_from s.words s.slot s.entries s.places s.entries p (chop s.places s.block c.args.blocks.now) c.args.targets.now) (sym none)),
    )

pub overflow_cast-place : goal.overflow_cast-place
overflow_cast-place c = let h = place_in (goal.at.overflow_cast-place c).In-Some in record { fits = omega arith }

pub arrive_place-requires : goal.arrive_place-requires
arrive_place-requires c =
    let l = c.loop-place in (
      going_first _ _ _ (enumerate_source l.place-iterator) (enumerate_source c.next.new.self) l.invariant.1 c.in-Some.block c.in-Some.ensures.steps.0,
      omega (arith, c.requires.2, l.invariant.0),
      place_in (goal.at.arrive_place-requires c).In-Some,
      c.requires.3,
      c.requires.4,
    )

pub returns-then-not-arrive_place : goal.returns-then-not-arrive_place
returns-then-not-arrive_place c =
    let l = c.loop-place in
    let s = c.in-Some.ensures.steps in
    going_out _ _ _ (enumerate_source l.place-iterator) (enumerate_source c.next.new.self) l.invariant.1 c.in-Some.block s.0 _
    (λ others e. from_no _ _ _ _ _ _ _ others _ _ e.1 _ s.1 _ _ c.arrive_place.ensures _ c.if-not-arrive_place.true)

pub loop-place-preserved : goal.loop-place-preserved
loop-place-preserved c =
    let l = c.loop-place in
    let s = c.in-Some.ensures.steps in (
      search rules,
      going_next _ _ _ (enumerate_source l.place-iterator) (enumerate_source c.next.new.self) l.invariant.1 c.in-Some.block s.0 _
          (λ others e. (omega (arith, e.0, s.2), from_yes _ _ _ _ _ _ _ others _ _ e.1 _ s.1 _ _ c.arrive_place.ensures _ s.2 c.if-not-arrive_place.false)),
    )

pub returns : goal.returns
returns c =
    let l = c.loop-place in
    from_done _ _ _ _ _ _ l.targets _ (going_done _ _ _ (enumerate_source l.place-iterator) (enumerate_source c.next.new.self) l.invariant.1 c.in-None.ensures.steps.0).1

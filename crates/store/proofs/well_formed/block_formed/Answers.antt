-- `block_formed` meets its contract.
use mathlib.Core.Bool.{not}
use mathlib.Core.Path.{ap}
use native.Mathlib.Omega.{arith}
use borrow.Author.Rules.{rules}
use Rattle.store.proofs.WellTestBlock.{left_done, left_free, left_bad, left_next, first_within}
use Rattle.store.proofs.well_formed.block_formed.Goals as goal

pub returns-then-rest-eq-FREE : goal.returns-then-rest-eq-FREE
returns-then-rest-eq-FREE c = let s = c.args.sizes in left_free s.places s.entries s.words _ _ c.loop-rest.invariant (search rules) _ c.if-rest-eq-FREE.true c.zeros.ensures

pub split_at-requires : goal.split_at-requires
split_at-requires c = let s = c.args.sizes in omega (arith, s.slot_is, first_within s.places s.entries s.words _ _ c.loop-rest.invariant (search rules))

pub returns-then-not-slot_formed : goal.returns-then-not-slot_formed
returns-then-not-slot_formed c =
    let s = c.args.sizes in
    left_bad s.places s.entries s.words _ _ c.loop-rest.invariant (search rules) c.if-rest-eq-FREE.false _ s.slot_is _ _ c.split_at.ensures.front c.split_at.ensures.back _ c.slot_formed.ensures (ap not c.if-not-slot_formed.true)

pub loop-rest-preserved : goal.loop-rest-preserved
loop-rest-preserved c =
    let s = c.args.sizes in
    left_next s.places s.entries s.words _ _ c.loop-rest.invariant (search rules) c.if-rest-eq-FREE.false _ s.slot_is _ _ c.split_at.ensures.front c.split_at.ensures.back _ c.slot_formed.ensures (ap not c.if-not-slot_formed.false)

pub returns : goal.returns
returns c = let s = c.args.sizes in left_done s.places s.entries s.words _ _ c.loop-rest.invariant (search rules)

-- `left` meets its contract.
use mathlib.Core.Path.{refl}
use Rattle.reading.proofs.KindReads.{other_kind}
use Rattle.backward.proofs.LeftLaws.{left_start, left_ends, left_entry, left_again, left_some, left_found}
use Rattle.backward.proofs.held.left.Goals as goal

pub loop-i-init : goal.loop-i-init
loop-i-init c = search left_start

pub kind-requires : goal.kind-requires
kind-requires c = search left_entry

pub queue_before-requires : goal.queue_before-requires
queue_before-requires c = search left_entry

pub overflow_sub-result : goal.overflow_sub-result
overflow_sub-result c = left_some _ _ _ c.loop-i-test.true c.loop-i.invariant _ c.in-Rec.ensures refl _ c.queue_before.ensures c.requires.0

pub returns-in-Rec : goal.returns-in-Rec
returns-in-Rec c = left_found _ _ _ c.loop-i-test.true c.loop-i.invariant _ c.in-Rec.ensures refl _ c.queue_before.ensures

pub loop-i-preserved : goal.loop-i-preserved
loop-i-preserved c = left_again _ _ _ c.loop-i-test.true c.loop-i.invariant _ c.kind.ensures (other_kind c.in_default.not-Rec)

pub returns : goal.returns
returns c = left_ends _ _ _ c.loop-i-test.false c.loop-i.invariant

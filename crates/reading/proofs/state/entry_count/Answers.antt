-- `entry_count` meets its contract.
use Rattle.reading.proofs.StateReads.{head_of, count_none, count_free, count_more, count_full, count_index}
use native.Mathlib.Omega.{arith}
use Rattle.reading.proofs.state.entry_count.Goals as goal

pub loop-i-init : goal.loop-i-init
loop-i-init c = count_none _ _

pub slot-requires : goal.slot-requires
slot-requires c = (c.requires.0, c.requires.1, count_index _ _ _ c.loop-i.invariant _ c.most_entries-most.ensures c.loop-i-test.true)

pub bounds-slot-0 : goal.bounds-slot-0
bounds-slot-0 c = omega (arith, head_of _ c.requires.0 _ _ _ c.slot.ensures)

pub returns-then-slot-eq-FREE : goal.returns-then-slot-eq-FREE
returns-then-slot-eq-FREE c = count_free _ _ _ c.loop-i.invariant _ c.slot.ensures c.if-slot-eq-FREE.true

pub loop-i-preserved : goal.loop-i-preserved
loop-i-preserved c = count_more _ _ _ c.loop-i.invariant _ c.slot.ensures c.if-slot-eq-FREE.false

pub returns : goal.returns
returns c = count_full _ _ _ c.loop-i.invariant _ c.most_entries-most.ensures (omega arith)

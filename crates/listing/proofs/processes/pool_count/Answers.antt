-- `pool_count` meets its contract.
use borrow.Author.Rules.{rules}
use native.Mathlib.Omega.{arith}
use Rattle.reading.proofs.StateReads.{places_few}
use Rattle.listing.proofs.ProcessLaws.{counted_none, counted_more, counted_same, counted_all}
use Rattle.listing.proofs.processes.pool_count.Goals as goal
use Rattle.listing.proofs.processes.pool_count.Goals.{then-in_pool, else-in_pool}

pub overflow_cast-p-end : goal.overflow_cast-p-end
overflow_cast-p-end c = omega (arith, places_few _ c.requires _ c.places-p-end.ensures)

pub loop-p-init : goal.loop-p-init
loop-p-init c = (search rules, counted_none _)

pub overflow_add-count : goal.overflow_add-count
overflow_add-count c = omega (arith, places_few _ c.requires _ c.places-p-end.ensures)

pub loop-p-preserved : goal.loop-p-preserved
loop-p-preserved c = (
  elim c.if-in_pool.branch [ then-in_pool w ↦ omega arith | else-in_pool w ↦ omega arith ],
  elim c.if-in_pool.branch [
    | then-in_pool w ↦ counted_more _ _ _ _ _ w.count-is c.loop-p.invariant.1 c.in_pool.ensures w.if-in_pool.true
    | else-in_pool w ↦ counted_same _ _ _ _ _ w.count-is c.loop-p.invariant.1 c.in_pool.ensures w.if-in_pool.false
  ],
)

pub returns : goal.returns
returns c = counted_all _ _ _ _ c.places-p-end.ensures (omega arith) c.loop-p.invariant.1

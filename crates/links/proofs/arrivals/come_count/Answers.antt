-- `links::arrivals::come_count` meets its contract.
use lib.ListN.{length}
use Rattle.links.specs.Listed.{ComeCount}
use Rattle.reading.specs.Reads.{OfState}
use Prim.Native.Nat.{◌+◌}
use native.Mathlib.Omega.{arith}
use Rattle.links.proofs.ArrivalReads.{come_counted}
use Rattle.links.proofs.LinkWhole.{end_upto, come_low}
use Rattle.links.proofs.arrivals.come_count.Goals as goal
use Rattle.links.proofs.arrivals.come_count.Goals.{After-queue}

come : (c : After-queue) → OfState c.args.store.now (ComeCount c.args.p (c.recs_before.result + length c.queue.result.now))
come c = come_counted _ _ _ _ _ c.entry_count-end.ensures c.recs_before.ensures.0 c.recs_before.ensures.1 c.queue.ensures

pub recs_before-requires : goal.recs_before-requires
recs_before-requires c = (c.requires.0, end_upto _ _ _ c.entry_count-end.ensures)

pub overflow_add-result : goal.overflow_add-result
overflow_add-result c = let h = come_low _ c.requires.0 _ _ (come (goal.at.overflow_add-result c).After-queue) in omega (arith, h)

pub returns : goal.returns
returns c = come (goal.at.returns c).After-queue

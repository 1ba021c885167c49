-- `links::links::seen_by` meets its contract.
use Rattle.links.proofs.ArrivalReads.{seen_read}
use native.Mathlib.Omega.{arith}
use Rattle.links.proofs.LinkWhole.{entry_upto, entry_low}
use Rattle.links.proofs.links.seen_by.Goals as goal

pub recs_before-requires : goal.recs_before-requires
recs_before-requires c = (c.requires.0, entry_upto _ _ _ c.requires.1)

pub overflow_add-result : goal.overflow_add-result
overflow_add-result c = let h = entry_low _ c.requires.0 _ _ c.requires.1 in omega (arith, h.1, c.recs_before.ensures.1)

pub returns : goal.returns
returns c = seen_read _ _ _ _ _ c.recs_before.ensures.0 c.queue_before.ensures

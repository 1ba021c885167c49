-- `links::arrivals::recs_before` meets its contract.
use Rattle.reading.proofs.KindReads.{recs_counted}
use Rattle.links.proofs.arrivals.recs_before.Goals as goal

pub returns : goal.returns
returns c = (recs_counted _ _ _ _ c.count_of.ensures.0, c.count_of.ensures.1)

-- `cuts::chains::enter` meets its contract.
use Rattle.cuts.proofs.ChainLaws.{enter_on}
use Rattle.cuts.proofs.chains.enter.Goals as goal

pub returns : goal.returns
returns c = let p = c.requires in enter_on _ _ _ _ p.0 p.1 c.slot-s.ensures.0 p.2

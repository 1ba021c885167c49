-- `cuts::chains::index_links` meets its contract.
use Rattle.cuts.proofs.ChainLaws.{index_start}
use Rattle.cuts.proofs.chains.index_links.Goals as goal

pub loop-k-init : goal.loop-k-init
loop-k-init c = index_start _ _ c.requires.0.most c.requires.1

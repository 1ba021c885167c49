-- `links::aims::spawn_of` meets its contract.
use Rattle.links.proofs.SpawnReads.{Unborn}
use Rattle.links.proofs.aims.spawn_of.Given as goal

abbrev pub invariant-loop-p : goal.invariant-loop-p
invariant-loop-p l = Unborn l.store l.q l.p

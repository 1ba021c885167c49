-- `links::aims::spawn_in` meets its contract.
use Rattle.links.proofs.SpawnReads.{Unspawned}
use Rattle.links.proofs.aims.spawn_in.Given as goal

abbrev pub invariant-loop-i : goal.invariant-loop-i
invariant-loop-i l = Unspawned l.store l.p l.q l.i

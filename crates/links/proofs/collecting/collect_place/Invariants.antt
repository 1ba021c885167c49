-- `links::collecting::collect_place` meets its contract.
use Rattle.std.proofs.Common.{◌*◌}
use Rattle.cuts.specs.Bounds.{links_each}
use Rattle.links.specs.Listed.{Below, Adds}
use Rattle.links.proofs.collecting.collect_place.Given as goal

abbrev pub invariant-loop-i : goal.invariant-loop-i
invariant-loop-i g l = Adds l.store (Below g.S.Sort.of_entry l.p l.i) l.initial.links.items l.links.items (links_each * l.i)

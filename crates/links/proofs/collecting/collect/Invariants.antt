-- `links::collecting::collect` meets its contract.
use Rattle.std.proofs.Common.{◌*◌}
use Rattle.cuts.specs.Bounds.{links_of_place}
use Rattle.links.specs.Listed.{BelowPlace, Adds}
use Rattle.links.proofs.collecting.collect.Given as goal

abbrev pub invariant-loop-p : goal.invariant-loop-p
invariant-loop-p g l = Adds l.store (BelowPlace g.S.Sort.of_entry l.p) l.initial.links.items l.links.items (links_of_place * l.p)

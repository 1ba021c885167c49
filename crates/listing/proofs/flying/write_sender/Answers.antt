-- `write_sender` meets its contract.
use borrow.Author.Rules.{rules}
use mathlib.Core.Path.{refl}
use native.Mathlib.Omega.{arith}
use Rattle.listing.proofs.FlightLaws.{whole_fits, names_none, names_more, names_all}
use Rattle.listing.proofs.flying.write_sender.Goals as goal

pub sends_before-end-requires : goal.sends_before-end-requires
sends_before-end-requires c = (search rules, search rules, whole_fits _ _ _ c.entry_count.ensures)

pub loop-k-init : goal.loop-k-init
loop-k-init c = (search rules, names_none _ _ _ _ _ c.past.ensures (search rules))

pub loop-k-preserved : goal.loop-k-preserved
loop-k-preserved c = (search rules, names_more _ _ _ _ _ _ _ _ _ c.loop-k.invariant.1 c.write_flying-reached.ensures)

pub returns : goal.returns
returns c = names_all _ _ _ _ _ _ _ _ _ _ c.entry_count.ensures c.sends_before-end.ensures (omega arith) c.past.ensures refl (search rules) c.loop-k.invariant.1

-- `write_sender` meets its contract.
use mathlib.Core.Path.{◌≡◌}
use lib.ListN.{length}
use Rattle.reading.specs.Reads.{OfState}
use Rattle.listing.specs.Listed.{Followed}
use Rattle.listing.proofs.FlightLaws.{names_below}
use Rattle.listing.proofs.flying.write_sender.Given as goal

abbrev pub invariant-loop-k : goal.invariant-loop-k
invariant-loop-k l = (length l.out ≡ length l.initial.out) × OfState l.store (λ state. Followed (names_below state l.s l.k) l.initial.reached l.initial.out l.out l.reached)

-- `write_places` meets its contract.
use mathlib.Core.Path.{◌≡◌}
use lib.ListN.{length}
use Rattle.text.specs.Written.{Wrote}
use Rattle.reading.specs.Reads.{OfState}
use Rattle.listing.specs.Listed.{places_text}
use Rattle.listing.proofs.processes.write_places.Given as goal

abbrev pub invariant-loop-p : goal.invariant-loop-p
invariant-loop-p l = (length l.out ≡ length l.initial.out) × OfState l.store (λ s. Wrote (places_text s l.p) l.at l.initial.out l.out l.to)

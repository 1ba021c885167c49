-- `write_senders` meets its contract.
use mathlib.Core.Path.{◌≡◌}
use lib.ListN.{length}
use Rattle.reading.specs.Reads.{OfState}
use Rattle.listing.specs.Listed.{Followed, flying_texts}
use Rattle.listing.proofs.flying.write_senders.Given as goal

abbrev pub invariant-loop-s : goal.invariant-loop-s
invariant-loop-s l = (length l.out ≡ length l.initial.out) × OfState l.store (λ state. Followed (flying_texts state l.s) l.initial.reached l.initial.out l.out l.reached)

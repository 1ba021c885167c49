-- `awaited` meets its contract.
use Rattle.reading.specs.Reads.{OfState}
use Rattle.lists.specs.Lists.{any, up_to}
use mathlib.Core.Bool.{false}
use mathlib.Core.Path.{◌≡◌}
use Rattle.reading.proofs.FlightReads.{from_place}
use Rattle.reading.proofs.mail.awaited.Given as goal

abbrev pub invariant-loop-s : goal.invariant-loop-s
invariant-loop-s l = OfState l.store (λ st. any (from_place st l.q) (up_to l.s) ≡ false)

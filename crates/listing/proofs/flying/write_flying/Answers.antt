-- `write_flying` meets its contract.
use mathlib.Core.Bool.{not}
use mathlib.Core.Path.{ap}
use mathlib.Core.Path.{refl}
use native.Mathlib.Omega.{arith}
use Rattle.lists.proofs.Tests.{not_true, not_false}
use Rattle.reading.proofs.StateReads.{place_low}
use Rattle.listing.proofs.FlightLaws.{name_not, name_so}
use borrow.Author.Rules.{rules}
use Rattle.listing.proofs.flying.write_flying.Goals as goal

pub returns-then-not-in_flight : goal.returns-then-not-in_flight
returns-then-not-in_flight c = name_not _ _ _ _ c.in_flight.ensures _ _ _ (not_true _ (ap not c.if-not-in_flight.true)) (search rules) refl (search rules)

pub overflow_cast-s : goal.overflow_cast-s
overflow_cast-s c = omega (arith, place_low _ c.requires.0 _ c.requires.1)

pub returns : goal.returns
returns c = name_so _ _ _ _ c.in_flight.ensures _ _ _ _ _ _ _ (not_false _ (ap not c.if-not-in_flight.false)) c.from.ensures c.write_gap-next.ensures c.write_name.ensures refl

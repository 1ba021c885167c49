-- `in_flight` meets its contract.
use mathlib.Core.Path.{refl}
use native.Mathlib.Omega.{arith}
use Rattle.reading.proofs.StateReads.{place_low}
use Rattle.listing.proofs.FlightLaws.{not_sent, is_send, count_small, target_place, flies_unless_come}
use borrow.Author.Rules.{rules}
use Rattle.listing.proofs.flying.in_flight.Goals as goal

pub returns-in_default : goal.returns-in_default
returns-in_default c = not_sent _ _ _ _ c.find_send.ensures c.in_default.is

pub target-t-requires : goal.target-t-requires
target-t-requires c = (search rules, is_send _ _ _ _ c.find_send.ensures _ c.in-Some.is)

pub overflow_cast-name : goal.overflow_cast-name
overflow_cast-name c = omega (arith, place_low _ c.requires.0 _ c.requires.1)

pub overflow_mul-name : goal.overflow_mul-name
overflow_mul-name c = omega (arith, place_low _ c.requires.0 _ c.requires.1)

pub overflow_add-name : goal.overflow_add-name
overflow_add-name c = omega (arith, place_low _ c.requires.0 _ c.requires.1, count_small _ _ _ _ c.find_send.ensures _ c.in-Some.is c.requires.0)

pub has_come-requires : goal.has_come-requires
has_come-requires c = (search rules, target_place _ _ _ _ c.find_send.ensures _ c.in-Some.is _ c.target-t.ensures)

pub returns : goal.returns
returns c = flies_unless_come _ _ _ _ c.find_send.ensures _ c.in-Some.is _ c.target-t.ensures _ _ refl c.has_come.ensures

-- `listing` meets its contract.
use mathlib.Core.Bool.{not}
use mathlib.Core.Path.{ap}
use native.Mathlib.Omega.{arith}
use mathlib.Core.Path.{refl}
use Rattle.lists.proofs.Tests.{not_true, not_false}
use Rattle.listing.proofs.ListingLaws.{lists_no_state, lists_no_room, length_small, lists_all}
use borrow.Author.Rules.{rules}
use Rattle.listing.proofs.listing.listing.Goals as goal

pub returns-then-not-sound : goal.returns-then-not-sound
returns-then-not-sound c = lists_no_state _ _ _ c.sound.ensures (not_true _ (ap not c.if-not-sound.true))

pub write_listing-length-requires : goal.write_listing-length-requires
write_listing-length-requires c = c.sound.ensures.sound (not_false _ (ap not c.if-not-sound.false))

pub returns-then-out-length : goal.returns-then-out-length
returns-then-out-length c = lists_no_room _ _ (c.sound.ensures.sound (not_false _ (ap not c.if-not-sound.false))) _ _ _ c.write_listing-length.ensures refl (search rules) (search rules)

pub write_listing-requires : goal.write_listing-requires
write_listing-requires c = c.sound.ensures.sound (not_false _ (ap not c.if-not-sound.false))

pub overflow_cast-result : goal.overflow_cast-result
overflow_cast-result c = omega (arith, length_small _ c.args.out.now (c.sound.ensures.sound (not_false _ (ap not c.if-not-sound.false))) _ _ _ c.write_listing-length.ensures refl (search rules) (search rules))

pub returns : goal.returns
returns c = lists_all _ _ (c.sound.ensures.sound (not_false _ (ap not c.if-not-sound.false))) _ _ _ c.write_listing-length.ensures refl (search rules) _ _ (search rules) c.write_listing.ensures

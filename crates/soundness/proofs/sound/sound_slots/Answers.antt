-- `soundness::sound::sound_slots` meets its contract.
use mathlib.Core.Bool.{not}
use mathlib.Core.Path.{ap}
use Rattle.lists.proofs.Tests.{not_false}
use Rattle.lists.proofs.All.{all_so}
use native.Mathlib.Omega.{arith}
use Rattle.store.proofs.SoundStates.{sizes_in_lem}
use Rattle.soundness.proofs.StoreTest.{whole_controls, blocks_taken, slots_shapeless, slots_no_first, slots_unborn, slots_messages}
use borrow.Author.Rules.{rules}
use Rattle.soundness.proofs.sound.sound_slots.Goals as goal

pub overflow_cast-sizes : goal.overflow_cast-sizes
overflow_cast-sizes c = let few = (sizes_in_lem _ c.args.sizes.good).places_high in record { fits = omega arith }

pub places_pass-requires : goal.places_pass-requires
places_pass-requires c = (c.requires.0, whole_controls _ _ _ _ c.requires.1)

pub returns-then-not-places_pass : goal.returns-then-not-places_pass
returns-then-not-places_pass c = search slots_shapeless

pub returns-then-not-live : goal.returns-then-not-live
returns-then-not-live c = search slots_no_first

pub births-requires : goal.births-requires
births-requires c =
    let s = c in
    (s.requires.0, all_so (λ b x. x.controls.block) _ s.requires.1, search rules)

pub returns-then-not-births : goal.returns-then-not-births
returns-then-not-births c = search slots_unborn

pub sound_messages-requires : goal.sound_messages-requires
sound_messages-requires c =
    let s = c in
    (s.requires.0, whole_controls _ _ _ _ s.requires.1, blocks_taken _ _ _ _ _ _ s.requires.1 _ c.places_pass.ensures (not_false _ (ap not c.if-not-places_pass.false)), search rules)

pub returns : goal.returns
returns c = let few = (sizes_in_lem _ c.args.sizes.good).places_high in search (slots_messages, few)

-- `soundness::sound::sound_messages` meets its contract.
use Rattle.store.proofs.LayoutLaws.{names_most}
use Rattle.store.proofs.SoundStates.{sizes_in_lem}
use native.Mathlib.Omega.{arith}
use Rattle.lists.proofs.All.{all_so}
use Rattle.soundness.proofs.StoreTest.{messages_refused, messages_lost, messages_flow}
use Rattle.soundness.proofs.sound.sound_messages.Goals as goal

pub note_places-requires : goal.note_places-requires
note_places-requires c = (c.requires.0, c.requires.1, c.requires.3, names_most _ c.args.sizes.good)

pub returns-then-not-note_places : goal.returns-then-not-note_places
returns-then-not-note_places c = search messages_refused

pub messages-requires : goal.messages-requires
messages-requires c = let few = sizes_in_lem _ c.args.sizes.good in (c.requires.0, c.requires.2, omega (arith, names_most _ c.args.sizes.good, c.note_places.auto.targets), few.places_high, few.entries_high)

pub returns-then-not-messages : goal.returns-then-not-messages
returns-then-not-messages c = search messages_lost

pub flows-requires : goal.flows-requires
flows-requires c =
    let s = c in
    (s.requires.0, all_so (λ b x. x.block) _ s.requires.2)

pub returns : goal.returns
returns c = search messages_flow

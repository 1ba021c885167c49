-- Words are an image exactly where they are laid out of sound slots.
use Prim.Native.Nat.{ℕ}
use mathlib.Core.Path.{◌≡◌, refl, sym, ◌∙◌, ap, fun_ext, subst}
use mathlib.Core.Option.{Option, none, some}
use mathlib.Core.List.{List, ◌∷◌, ◌++◌, map, reverse, tail, nil≢cons, head-eq_of_cons-eq}
use native.Mathlib.Omega.{arith}
use lib.ListN.{length-append, length-map}
use Rattle.lists.specs.Lists.{All}
use Rattle.lists.proofs.All.{all_map, all_reverse}
use Rattle.rules.specs.State.{Sizes, Message, Kind, seq, send, rec, spawn, self, check, as_send, as_rec, as_check, Entry, Process, State, history_of, history_at, entry_at}
use Rattle.rules.specs.Sound.{Sound}
use Rattle.rules.specs.Depends.{queue_before}
use Rattle.store.specs.Layout.{name_word, Slot, kind_number, number_in, entry_slot, place_slots, slots_at, laid, image}
use Rattle.store.specs.Image.{IsImage}
use Rattle.store.proofs.Decoding.{restored, restored_same}
use Rattle.store.proofs.Histories.{all_entries}
use Rattle.store.proofs.SoundStates.{storable}
use Rattle.store.proofs.SlotViews.{EntryShape, seq_slot, send_slot, rec_slot, spawn_slot, self_slot, check_slot, PresentShape, slots_again}
use Rattle.store.proofs.SoundSlots.{Shaped, SoundSlots}
use Rattle.store.proofs.SlotsSound.{slots_sound, sound_slots}

pub record LaidOut (l : List ℕ) : Type 0 where
  pub module' : List ℕ
  pub sizes : Sizes
  pub places : ℕ → List Slot
  pub rest : List ℕ
  pub sound : SoundSlots module' sizes places
  pub words : l ≡ laid module' sizes places ++ rest

-- ---- the slots of a sound state

module _ (s : State) (sound : Sound s) where
  entry_shaped : (p i : ℕ) (e : Entry) → entry_at (history_at s p) i ≡ some e → EntryShape s.module' (entry_slot e)
  unfolding kind_number number_in as_rec queue_before as_send as_check
  entry_shaped p i e stands = go e.kind refl
    where
      go : (kind : Kind) → e.kind ≡ kind → EntryShape s.module' (record { kind = kind_number kind; number = number_in kind; control = e.before; names = map name_word (queue_before (as_rec kind)) })
      go seq same = seq_slot refl refl refl
      go (send target value) same = let says = sound.sends_said p i target value e stands (ap as_send same) in send_slot refl refl refl target value says.next says.sends
      go (rec older m newer) same = rec_slot refl (omega (arith, length-map (older ++ (m ∷ newer)) name_word, length-append older (m ∷ newer)))
      go (spawn child) same = spawn_slot refl refl
      go self same = self_slot refl refl refl
      go (check number) same = check_slot refl (sound.check_numbers p i number e stands (ap as_check same)) refl

  state_shaped : Shaped s.module' (slots_at s)
  unfolding slots_at place_slots history_at history_of All
  state_shaped = record { presents = λ p x xs. present (s.processes p) (s.queues p) x xs; entries = λ p. others (s.processes p) (s.queues p) (all_entries (history_at s p) (entry_shaped p)) }
    where
      present : (o : Option Process) (queue : List Message) (x : Slot) (xs : List Slot) → place_slots o queue ≡ x ∷ xs → PresentShape x
      present none queue x xs e = absurd (nil≢cons e)
      present (some process) queue x xs e = subst PresentShape (head-eq_of_cons-eq e) (record { is_live = refl; no_number = refl })

      others : (o : Option Process) (queue : List Message) → All (λ e. EntryShape s.module' (entry_slot e)) (history_of o) → All (EntryShape s.module') (tail (place_slots o queue))
      others none queue a = tt
      others (some process) queue a =
          all_map (EntryShape s.module') entry_slot (reverse process.history) (all_reverse (λ e. EntryShape s.module' (entry_slot e)) process.history a)

  pub image_slots : SoundSlots s.module' s.sizes (slots_at s)
  image_slots = sound_slots s.module' s.sizes (slots_at s) state_shaped (subst Sound (sym (restored_same s (storable s sound))) sound)

pub laid_out : (l : List ℕ) → IsImage l → LaidOut l
unfolding image
laid_out l x = record { module' = x.state.module'; sizes = x.state.sizes; places = slots_at x.state; rest = x.rest; sound = image_slots x.state x.sound; words = x.words }

-- ---- the state of sound slots

pub slots_restored : (module' : List ℕ) (sizes : Sizes) (places : ℕ → List Slot) → Shaped module' places → slots_at (restored module' sizes places) ≡ places
unfolding slots_at restored
slots_restored module' sizes places shaped = fun_ext λ p. slots_again module' places (places p) (shaped.presents p) (shaped.entries p)

pub is_image : (l : List ℕ) → LaidOut l → IsImage l
unfolding image restored
is_image l x =
    let s = restored x.module' x.sizes x.places in
    record {
      state = s;
      rest = x.rest;
      sound = slots_sound x.module' x.sizes x.places x.sound.shaped x.sound;
      words = x.words ∙ ap (λ (places : ℕ → List Slot). laid x.module' x.sizes places ++ x.rest) (sym (slots_restored x.module' x.sizes x.places x.sound.shaped));
    }

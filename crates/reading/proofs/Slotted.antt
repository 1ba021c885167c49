-- The slots of a sound state: their words, and what the slot of the present and the slots of entries are.
use Prim.Native.Nat.{ℕ, zero, suc, ◌+◌, ◌≤◌, ◌<◌}
use mathlib.Core.Path.{◌≡◌, refl, sym, ◌∙◌, ap}
use mathlib.Core.Logic.{inl, inr}
use mathlib.Core.Option.{Option, none, some}
use mathlib.Core.List.{List, [], ◌∷◌, ◌++◌, map, map-append, reverse, reverse-cons}
use native.Mathlib.Decide.{ℕ_discrete}
use native.Mathlib.Omega.{arith}
use lib.Dec.{eqb, ltb}
use lib.ListN.{length, take, drop, get_or, length-map, length-reverse, get_or-eq_default, get_or-append}
use lib.Seq.{get_or_at}
use Rattle.lists.specs.Lists.{All}
use Rattle.lists.proofs.Tests.{none_not_some, some_injective, true_or_false, ltb-true, ltb_false, eqb_of, eqb_apart, cond_true, cond_false}
use Rattle.lists.proofs.All.{all_get_d}
use Rattle.rules.specs.State.{Message, Entry, Process, State, history_of, history_at, entry_at, is_process, in_pool}
use Rattle.rules.specs.Sound.{Sound}
use Rattle.demands.proofs.Histories.{entry_suffix, suffix_length}
use Rattle.store.specs.Layout.{slot_head, slot_size, kind_free, kind_live, Slot, free_slot, slot_words, name_word, entry_slot, place_slots, slots_at}
use Rattle.store.proofs.Lengths.{length_slot}
use Rattle.store.proofs.Reading.{FitsSlot, Used}
use Rattle.store.proofs.Decoding.{slots_used, slots_fit}
use Rattle.store.proofs.SoundStates.{storable, outside}
use Rattle.store.proofs.Slots.{kind_word, control_length_word, number_word, names_length_word, control_lent, names_lent}
use Rattle.reading.specs.Reads.{control_of, control_at}

-- ---- an element, or what stands for it past the end

get_d_so : {A : Type 0} (P : A → Type 0) (xs : List A) (i : ℕ) (d : A) → All P xs → P d → P (get_or xs i d)
unfolding All
get_d_so P [] i d a h = h
get_d_so P (x ∷ xs) zero d a h = a.0
get_d_so P (x ∷ xs) (suc i) d a h = get_d_so P xs i d a.1 h

-- ---- entries by number

pub entry_below : (h : List Entry) (i : ℕ) {e : Entry} → entry_at h i ≡ some e → i < length h
entry_below h i stands = let (g, s, n) = entry_suffix h i stands in omega (arith, suffix_length s)

entry_slot_at : (h : List Entry) (i : ℕ) (d : Slot) {e : Entry} → entry_at h i ≡ some e → get_or (map entry_slot (reverse h)) i d ≡ entry_slot e
unfolding entry_at
entry_slot_at [] i d stands = none_not_some stands
entry_slot_at (x ∷ h) i d {e} stands = split ∙ go (ℕ_discrete (length h) i) (entry_slot_at h i d)
  where
    front : List Slot
    front = map entry_slot (reverse h)

    split : get_or (map entry_slot (reverse (x ∷ h))) i d ≡ get_or (front ++ (entry_slot x ∷ [])) i d
    split = ap (λ (xs : List Slot). get_or xs i d) (ap (map entry_slot) (reverse-cons x h) ∙ map-append entry_slot (reverse h) (x ∷ []))

    long : length front ≡ length h
    long = length-map (reverse h) entry_slot ∙ length-reverse h

    go : Dec (length h ≡ i) → (entry_at h i ≡ some e → get_or front i d ≡ entry_slot e) → get_or (front ++ (entry_slot x ∷ [])) i d ≡ entry_slot e
    go (yes j) r = get_or_at front (entry_slot x) [] d i (long ∙ j) ∙ ap entry_slot (some_injective (sym (cond_true (some x) (entry_at h i) (eqb_of (length h) i j)) ∙ stands))
    go (no j) r =
        let older = sym (cond_false (some x) (entry_at h i) (eqb_apart (length h) i j)) ∙ stands in
        get_or-append front (entry_slot x ∷ []) d i (omega (arith, entry_below h i older, long)) ∙ r older

-- ---- the words of a slot

module _ (s : State) (sound : Sound s) (p j : ℕ) where
  abbrev pub slot_there : Slot
  slot_there = get_or (slots_at s p) j free_slot

  pub fits_there : FitsSlot s.sizes slot_there
  fits_there = get_d_so (FitsSlot s.sizes) (slots_at s p) j free_slot (slots_fit s (storable s sound) p) (record { control_fits = omega arith; names_fit = omega arith })

  module _ (x : List ℕ) (e : x ≡ slot_words s.sizes slot_there) where
    pub kind_there : get_or x 0 0 ≡ slot_there.kind
    kind_there = ap (λ (y : List ℕ). get_or y 0 0) e ∙ kind_word s.sizes slot_there

    pub number_there : get_or x 2 0 ≡ slot_there.number
    number_there = ap (λ (y : List ℕ). get_or y 2 0) e ∙ number_word s.sizes slot_there

    control_count : get_or x 1 0 ≡ length slot_there.control
    control_count = ap (λ (y : List ℕ). get_or y 1 0) e ∙ control_length_word s.sizes slot_there

    names_count : get_or x 4 0 ≡ length slot_there.names
    names_count = ap (λ (y : List ℕ). get_or y 4 0) e ∙ names_length_word s.sizes slot_there

    long_there : length x ≡ slot_size s.sizes
    long_there = ap length e ∙ length_slot s.sizes slot_there

    pub head_there : slot_head ≤ length x
    head_there = omega (arith, long_there)

    pub control_in : slot_head + get_or x 1 0 ≤ length x
    control_in = omega (arith, long_there, control_count, fits_there.control_fits)

    pub names_in_lem : (words : ℕ) → words ≡ s.sizes.words → slot_head + words + get_or x 4 0 ≤ length x
    names_in_lem words w = omega (arith, long_there, names_count, fits_there.names_fit)

    pub control_there : take (get_or x 1 0) (drop slot_head x) ≡ slot_there.control
    control_there = ap (λ (y : List ℕ). take (get_or x 1 0) (drop slot_head y)) e ∙ control_lent s.sizes slot_there (get_or x 1 0) control_count fits_there.control_fits

    pub names_there : (words : ℕ) → words ≡ s.sizes.words → take (get_or x 4 0) (drop (slot_head + words) x) ≡ slot_there.names
    names_there words w =
        ap (λ (y : List ℕ). take (get_or x 4 0) (drop (slot_head + words) y)) e
        ∙ names_lent s.sizes slot_there (slot_head + words) (get_or x 4 0) (ap (λ (n : ℕ). slot_head + n) w) names_count fits_there.names_fit

-- ---- which slots there are

module _ (s : State) (sound : Sound s) (p : ℕ) where
  -- the slot of the present
  pub present_kind : eqb (get_or (slots_at s p) 0 free_slot).kind kind_live ≡ in_pool s p
  unfolding slots_at place_slots in_pool is_process
  present_kind = go (s.processes p) (s.queues p)
    where
      go : (o : Option Process) (queue : List Message) → eqb (get_or (place_slots o queue) 0 free_slot).kind kind_live ≡ is_process o
      go none queue = refl
      go (some process) queue = refl

  pub present_control : (get_or (slots_at s p) 0 free_slot).control ≡ control_at s p
  unfolding slots_at place_slots control_at control_of
  present_control = go (s.processes p) (s.queues p)
    where
      go : (o : Option Process) (queue : List Message) → (get_or (place_slots o queue) 0 free_slot).control ≡ control_of o
      go none queue = refl
      go (some process) queue = refl

  pub present_names : (get_or (slots_at s p) 0 free_slot).names ≡ map name_word (s.queues p)
  unfolding slots_at place_slots
  present_names = go (s.processes p) (s.queues p) ((storable s sound).no_queue p)
    where
      go : (o : Option Process) (queue : List Message) → (o ≡ none → queue ≡ []) → (get_or (place_slots o queue) 0 free_slot).names ≡ map name_word queue
      go none queue f = sym (ap (map name_word) (f refl))
      go (some process) queue f = refl

  -- the slots of entries
  pub entry_there : (i : ℕ) {e : Entry} → entry_at (history_at s p) i ≡ some e → get_or (slots_at s p) (suc i) free_slot ≡ entry_slot e
  unfolding slots_at place_slots history_at history_of entry_at
  entry_there i {e} stands = go (s.processes p) (s.queues p) stands
    where
      go : (o : Option Process) (queue : List Message) → entry_at (history_of o) i ≡ some e → get_or (place_slots o queue) (suc i) free_slot ≡ entry_slot e
      go none queue stands = none_not_some stands
      go (some process) queue stands = entry_slot_at process.history i free_slot stands

  slots_count : (i : ℕ) → i < length (history_at s p) → suc i < length (slots_at s p)
  unfolding slots_at place_slots history_at history_of
  slots_count i h = go (s.processes p) (s.queues p) h
    where
      go : (o : Option Process) (queue : List Message) → i < length (history_of o) → suc i < length (place_slots o queue)
      go none queue h = absurd (omega arith)
      go (some process) queue h = omega (arith, length-map (reverse process.history) entry_slot, length-reverse process.history)

  slots_end : (i : ℕ) → length (history_at s p) ≤ i → length (slots_at s p) ≤ suc i
  unfolding slots_at place_slots history_at history_of
  slots_end i h = go (s.processes p) (s.queues p) h
    where
      go : (o : Option Process) (queue : List Message) → length (history_of o) ≤ i → length (place_slots o queue) ≤ suc i
      go none queue h = omega arith
      go (some process) queue h = omega (arith, length-map (reverse process.history) entry_slot, length-reverse process.history)

  pub used_there : (i : ℕ) → i < length (history_at s p) → (get_or (slots_at s p) (suc i) free_slot).kind ≡ kind_free → ⊥
  used_there i h = all_get_d Used (slots_at s p) (suc i) free_slot (slots_used s (storable s sound) p) (slots_count i h)

  pub free_there : (i : ℕ) → length (history_at s p) ≤ i → (get_or (slots_at s p) (suc i) free_slot).kind ≡ kind_free
  free_there i h = ap (λ (x : Slot). x.kind) (get_or-eq_default (slots_at s p) free_slot (slots_end i h))

-- only a place that there is has entries
pub entry_place : (s : State) → Sound s → (p i : ℕ) → i < length (history_at s p) → p < s.sizes.places
unfolding history_at history_of
entry_place s sound p i h = elim (true_or_false (ltb p s.sizes.places)) [
  | inl t ↦ ltb-true p s.sizes.places t
  | inr f ↦ absurd (omega (arith, ap (λ (o : Option Process). length (history_of o)) (outside s p (sound.pool_ends p (ltb_false p s.sizes.places f)))))
]

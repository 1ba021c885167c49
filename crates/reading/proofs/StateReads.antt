-- What the code reads of a store's head and slots, said of the state that the store holds.
use Prim.Native.Nat.{ℕ, suc, ◌+◌, ◌-◌, ◌≤◌, ◌<◌}
use mathlib.Core.Path.{◌≡◌, sym, ◌∙◌, ap}
use mathlib.Core.Option.{some}
use mathlib.Core.List.{List, map}
use native.Mathlib.Decide.{dec_lt}
use native.Mathlib.Numerals.{add-one}
use native.Mathlib.Omega.{arith}
use lib.Dec.{eqb, ltb}
use lib.ListN.{length, take, drop, get_or, length-map}
use Rattle.lists.proofs.Tests.{ltb_over}
use Rattle.rules.specs.State.{as_rec, Entry, State, history_at, entry_at, in_pool}
use Rattle.rules.specs.Depends.{queue_before}
use Rattle.store.specs.Image.{IsImage}
use Rattle.store.specs.Layout.{head_words, slot_head, most_places, most_entries, kind_free, kind_live, Slot, free_slot, slot_words, name_word, kind_number, number_in, entry_slot, slots_at}
use Rattle.store.proofs.View.{places_word, entries_word, words_word, module_length_word, module_lent}
use Rattle.store.proofs.SoundStates.{SizesIn, sizes_in_lem, module_short, in_places}
use Rattle.reading.specs.Reads.{Holds, OfState, IsPlace, Lives, IsEntry, OfEntry, control_at}
use Rattle.reading.proofs.Holding.{at_image, holding, of_state, head_in}
use Rattle.reading.proofs.Slotted.{kind_there, number_there, head_there, control_in, names_in_lem, control_there, names_there, present_kind, present_control, present_names, entry_there, used_there, free_there, entry_place}

-- x are the words of slot j of place p
abbrev pub SlotAt : (l : List ℕ) (p j : ℕ) (x : List ℕ) → Type 0
SlotAt l p j x = OfState l (λ s. x ≡ slot_words s.sizes (get_or (slots_at s p) j free_slot))

-- ---- the head

module _ (l : List ℕ) where
  pub places_out : OfState l (λ s. get_or l 0 0 ≡ s.sizes.places)
  places_out = of_state _ λ s rest h. places_word s rest l h.words

  pub entries_out : OfState l (λ s. get_or l 1 0 ≡ s.sizes.entries)
  entries_out = of_state _ λ s rest h. entries_word s rest l h.words

  pub words_out : OfState l (λ s. get_or l 2 0 ≡ s.sizes.words)
  words_out = of_state _ λ s rest h. words_word s rest l h.words

  pub module_in : IsImage l → head_words + get_or l 3 0 ≤ length l
  module_in i = omega (arith, head_in l i, module_length_word i.state i.rest l i.words, module_short i.state.module' i.sound.module_passes)

  pub module_out : OfState l (λ s. take (head_words + get_or l 3 0 - head_words) (drop head_words l) ≡ s.module')
  module_out = of_state _ λ s rest h.
      let e : head_words + get_or l 3 0 - head_words ≡ length s.module' = omega (arith, module_length_word s rest l h.words) in
      module_lent s rest l h.words _ e (module_short s.module' h.sound.module_passes)

  -- ---- the sizes are small

  pub sizes_low : (i : IsImage l) → SizesIn i.state.sizes
  sizes_low i = sizes_in_lem i.state.sizes i.sound.sizes_pass

  module _ (i : IsImage l) where
    pub places_few : (n : ℕ) → OfState l (λ s. n ≡ s.sizes.places) → n ≤ most_places
    places_few n f = omega (arith, at_image _ i f, (sizes_low i).places_high)

    pub place_low : (p : ℕ) → OfState l (IsPlace p) → p < most_places
    place_low p f = omega (arith, at_image _ i f, (sizes_low i).places_high)

    pub entries_few : (p n : ℕ) → OfState l (λ s. n ≡ length (history_at s p)) → n ≤ most_entries
    entries_few p n f = omega (arith, at_image _ i f, i.sound.history_fits p, (sizes_low i).entries_high)

  -- ---- a slot

  pub head_of : (i : IsImage l) (p j : ℕ) (x : List ℕ) → SlotAt l p j x → slot_head ≤ length x
  head_of i p j x f = head_there i.state i.sound p j x (at_image _ i f)

  pub control_fits : (i : IsImage l) (p j : ℕ) (x : List ℕ) → SlotAt l p j x → (slot_head ≤ length x) × (slot_head + get_or x 1 0 ≤ length x)
  control_fits i p j x f = (head_of i p j x f, control_in i.state i.sound p j x (at_image _ i f))

  pub names_fit : (i : IsImage l) (p j : ℕ) (x : List ℕ) → SlotAt l p j x → (words : ℕ) → OfState l (λ s. words ≡ s.sizes.words) → (slot_head ≤ length x) × (slot_head + words + get_or x 4 0 ≤ length x)
  names_fit i p j x f words w = (head_of i p j x f, names_in_lem i.state i.sound p j x (at_image _ i f) words (at_image _ i w))

  -- ---- the slot of the present

  pub first_slot : OfState l (λ s. 0 ≤ s.sizes.entries)
  first_slot = of_state _ λ s rest h. omega arith

  pub no_place : (p : ℕ) → get_or l 0 0 ≤ p → OfState l (λ s. ltb p (get_or l 0 0) ≡ in_pool s p)
  no_place p b = of_state _ λ s rest h. ltb_over p (get_or l 0 0) b ∙ sym (h.sound.pool_ends p (omega (arith, places_word s rest l h.words)))

  pub lives_place : (p : ℕ) → OfState l (Lives p) → OfState l (IsPlace p)
  lives_place p f = of_state _ λ s rest h. in_places s h.sound p (holding _ f s rest h)

  pub is_place : (p : ℕ) → p < get_or l 0 0 → OfState l (IsPlace p)
  is_place p b = of_state _ λ s rest h. omega (arith, places_word s rest l h.words)

  module _ (p : ℕ) (x : List ℕ) (f : SlotAt l p 0 x) where
    pub live_out : OfState l (λ s. eqb (get_or x 0 0) kind_live ≡ in_pool s p)
    live_out = of_state _ λ s rest h. ap (λ (n : ℕ). eqb n kind_live) (kind_there s h.sound p 0 x (holding _ f s rest h)) ∙ present_kind s h.sound p

    pub control_out : (r : List ℕ) → r ≡ take (get_or x 1 0) (drop slot_head x) → OfState l (λ s. r ≡ control_at s p)
    control_out r e = of_state _ λ s rest h. e ∙ control_there s h.sound p 0 x (holding _ f s rest h) ∙ present_control s h.sound p

    pub queue_out : (r : List ℕ) (words : ℕ) → OfState l (λ s. words ≡ s.sizes.words) → r ≡ take (get_or x 4 0) (drop (slot_head + words) x) → OfState l (λ s. r ≡ map name_word (s.queues p))
    queue_out r words w e = of_state _ λ s rest h. e ∙ names_there s h.sound p 0 x (holding _ f s rest h) words (holding _ w s rest h) ∙ present_names s h.sound p

  -- names of a queue are as many as its messages
  pub queue_long : (p : ℕ) (names : List ℕ) → OfState l (λ s. names ≡ map name_word (s.queues p)) → OfState l (λ s. length names ≡ length (s.queues p))
  queue_long p names f = of_state _ λ s rest h. ap length (holding _ f s rest h) ∙ length-map (s.queues p) name_word

  -- ---- the slot of an entry

  module _ (p i : ℕ) (there : OfState l (IsEntry p i)) where
    pub entry_is_place : OfState l (IsPlace p)
    entry_is_place = of_state _ λ s rest h. entry_place s h.sound p i (holding _ there s rest h)

    pub entry_index : OfState l (λ s. i + 1 ≤ s.sizes.entries)
    entry_index = of_state _ λ s rest h. omega (arith, holding _ there s rest h, h.sound.history_fits p)

    pub entry_low : IsImage l → i + 1 ≤ most_entries
    entry_low im = omega (arith, at_image _ im entry_index, (sizes_low im).entries_high)

  module _ (p i : ℕ) (x : List ℕ) (f : SlotAt l p (i + 1) x) where
    slot_of : (s : State) (rest : List ℕ) (e : Entry) → entry_at (history_at s p) i ≡ some e → Holds l s rest → get_or (slots_at s p) (i + 1) free_slot ≡ entry_slot e
    slot_of s rest e stands h = ap (λ (n : ℕ). get_or (slots_at s p) n free_slot) (add-one i) ∙ entry_there s h.sound p i stands

    pub kind_out : OfState l (OfEntry p i (λ e. get_or x 0 0 ≡ kind_number e.kind))
    unfolding OfEntry
    kind_out = of_state _ λ s rest h. λ e stands. kind_there s h.sound p (i + 1) x (holding _ f s rest h) ∙ ap (λ (y : Slot). y.kind) (slot_of s rest e stands h)

    pub number_out : OfState l (OfEntry p i (λ e. get_or x 2 0 ≡ number_in e.kind))
    unfolding OfEntry
    number_out = of_state _ λ s rest h. λ e stands. number_there s h.sound p (i + 1) x (holding _ f s rest h) ∙ ap (λ (y : Slot). y.number) (slot_of s rest e stands h)

    pub before_out : (r : List ℕ) → r ≡ take (get_or x 1 0) (drop slot_head x) → OfState l (OfEntry p i (λ e. r ≡ e.before))
    unfolding OfEntry
    before_out r q = of_state _ λ s rest h. λ e stands. q ∙ control_there s h.sound p (i + 1) x (holding _ f s rest h) ∙ ap (λ (y : Slot). y.control) (slot_of s rest e stands h)

    pub queue_before_out : (r : List ℕ) (words : ℕ) → OfState l (λ s. words ≡ s.sizes.words) → r ≡ take (get_or x 4 0) (drop (slot_head + words) x)
        → OfState l (OfEntry p i (λ e. r ≡ map name_word (queue_before (as_rec e.kind))))
    unfolding OfEntry
    queue_before_out r words w q = of_state _ λ s rest h. λ e stands. q ∙ names_there s h.sound p (i + 1) x (holding _ f s rest h) words (holding _ w s rest h) ∙ ap (λ (y : Slot). y.names) (slot_of s rest e stands h)

  -- ---- how many entries there are

  pub count_none : (p : ℕ) → OfState l (λ s. 0 ≤ length (history_at s p))
  count_none p = of_state _ λ s rest h. omega arith

  module _ (p i : ℕ) (passed : OfState l (λ s. i ≤ length (history_at s p))) where
    -- a free slot comes after the last entry
    pub count_free : (x : List ℕ) → SlotAt l p (i + 1) x → get_or x 0 0 ≡ kind_free → OfState l (λ s. i ≡ length (history_at s p))
    count_free x f e = of_state _ λ s rest h.
        let kind : (get_or (slots_at s p) (suc i) free_slot).kind ≡ kind_free =
        ap (λ (n : ℕ). (get_or (slots_at s p) n free_slot).kind) (sym (add-one i)) ∙ sym (kind_there s h.sound p (i + 1) x (holding _ f s rest h)) ∙ e in
        elim (dec_lt i (length (history_at s p))) [
          | yes b ↦ absurd (used_there s h.sound p i b kind)
          | no b ↦ omega (arith, holding _ passed s rest h)
        ]

    pub count_more : (x : List ℕ) → SlotAt l p (i + 1) x → ¬ (get_or x 0 0 ≡ kind_free) → OfState l (λ s. i + 1 ≤ length (history_at s p))
    count_more x f n = of_state _ λ s rest h.
        elim (dec_lt i (length (history_at s p))) [
          | yes b ↦ omega arith
          | no b ↦ absurd (n (kind_there s h.sound p (i + 1) x (holding _ f s rest h) ∙ ap (λ (n : ℕ). (get_or (slots_at s p) n free_slot).kind) (add-one i) ∙ free_there s h.sound p i (omega arith)))
        ]

    pub count_full : (most : ℕ) → OfState l (λ s. most ≡ s.sizes.entries) → most ≤ i → OfState l (λ s. most ≡ length (history_at s p))
    count_full most m b = of_state _ λ s rest h. omega (arith, holding _ m s rest h, holding _ passed s rest h, h.sound.history_fits p)

    pub count_index : (most : ℕ) → OfState l (λ s. most ≡ s.sizes.entries) → i < most → OfState l (λ s. i + 1 ≤ s.sizes.entries)
    count_index most m b = of_state _ λ s rest h. omega (arith, holding _ m s rest h)

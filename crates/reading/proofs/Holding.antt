-- A store that holds a state: its sizes are the words that the code reads, and where its slots stand.
use Prim.Native.Nat.{ℕ, ◌+◌, ◌*◌, ◌-◌, ◌≤◌, ◌<◌}
use mathlib.Core.Path.{◌≡◌, refl, sym, ◌∙◌, ap, subst}
use mathlib.Core.Bool.{true}
use mathlib.Core.List.{List}
use native.Mathlib.Omega.{arith}
use lib.ListN.{length, take, drop, get_or}
use Rattle.rules.specs.State.{Sizes, State}
use Rattle.rules.specs.Load.{good_sizes}
use Rattle.store.specs.Image.{IsImage}
use Rattle.store.specs.Layout.{blocks_from, slot_size, block_size, needed, longest_store, free_slot, slot_words, slots_at}
use Rattle.store.specs.Sizing.{sizes_of}
use Rattle.store.proofs.LayoutLaws.{slot_within, blocks_most}
use Rattle.store.proofs.View.{places_word, entries_word, words_word, long_enough, slot_read}
use Rattle.reading.specs.Reads.{Holds, OfState, IsPlace}

-- the state of an image is one that the words hold
pub of_image : (l : List ℕ) (i : IsImage l) → Holds l i.state i.rest
of_image l i = record { sound = i.sound; words = i.words }

pub at_image : {l : List ℕ} (P : State → Type 0) (i : IsImage l) → OfState l P → P i.state
unfolding OfState
at_image {l} P i f = f i.state i.rest (of_image l i)

pub holding : {l : List ℕ} (P : State → Type 0) → OfState l P → (s : State) (rest : List ℕ) → Holds l s rest → P s
unfolding OfState
holding P f = f

pub of_state : {l : List ℕ} (P : State → Type 0) → ((s : State) (rest : List ℕ) → Holds l s rest → P s) → OfState l P
unfolding OfState
of_state P f = f

-- the sizes as the code reads them
abbrev pub sizes_read : List ℕ → Sizes
sizes_read l = sizes_of (get_or l 0 0) (get_or l 1 0) (get_or l 2 0)

pub sizes_read_lem : (l : List ℕ) (s : State) (rest : List ℕ) → Holds l s rest → sizes_read l ≡ s.sizes
sizes_read_lem l s rest h = λ i. record { places = places_word s rest l h.words i; entries = entries_word s rest l h.words i; words = words_word s rest l h.words i }

module _ (l : List ℕ) (i : IsImage l) where
  pub good_read : good_sizes (sizes_read l) ≡ true
  good_read = ap good_sizes (sizes_read_lem l i.state i.rest (of_image l i)) ∙ i.sound.sizes_pass

  pub head_in : blocks_from ≤ length l
  head_in = omega (arith, long_enough i.state i.rest l i.words)

  pub all_in : needed (sizes_read l) ≤ length l
  all_in = subst (λ (z : Sizes). needed z ≤ length l) (sym (sizes_read_lem l i.state i.rest (of_image l i))) (long_enough i.state i.rest l i.words)

  pub place_read : {p : ℕ} → OfState l (IsPlace p) → p < get_or l 0 0
  place_read f = omega (arith, at_image _ i f, places_word i.state i.rest l i.words)

  pub index_read : {j : ℕ} → OfState l (λ s. j ≤ s.sizes.entries) → j ≤ get_or l 1 0
  index_read f = omega (arith, at_image _ i f, entries_word i.state i.rest l i.words)

  -- a slot lies within the words, and its place is a small number
  module _ (p j at size : ℕ) (hp : OfState l (IsPlace p)) (hj : OfState l (λ s. j ≤ s.sizes.entries))
      (a : at ≡ blocks_from + p * block_size (sizes_read l) + j * slot_size (sizes_read l)) (z : size ≡ slot_size (sizes_read l)) where
    pub slot_in : at + size ≤ length l
    slot_in = omega (arith, all_in, slot_within (sizes_read l) good_read p j (place_read hp) (index_read hj))

    pub slot_low : at + size ≤ longest_store
    slot_low = omega (arith, slot_within (sizes_read l) good_read p j (place_read hp) (index_read hj), blocks_most (sizes_read l) good_read)

    -- and is the slot of that number
    pub slot_is : OfState l (λ s. take (at + size - at) (drop at l) ≡ slot_words s.sizes (get_or (slots_at s p) j free_slot))
    slot_is = of_state _ λ s rest h.
        let same = sizes_read_lem l s rest h in
        let long : at + size - at ≡ slot_size s.sizes = omega (arith, ap slot_size same) in
        ap (λ (n : ℕ). take n (drop at l)) long
        ∙ slot_read s rest l h.words p (blocks_from + p * block_size s.sizes) (block_size s.sizes) (holding _ hp s rest h) refl refl j at
        (let b = holding _ hj s rest h in omega arith)
        (a ∙ ap (λ (y : Sizes). blocks_from + p * block_size y + j * slot_size y) same)

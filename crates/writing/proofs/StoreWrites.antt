-- A store that holds a state, and one of its slots changed.
use Prim.Native.Nat.{ℕ, suc, ◌+◌, ◌*◌, ◌≤◌, ◌<◌}
use mathlib.Core.Path.{◌≡◌, refl, sym, ◌∙◌, ap}
use mathlib.Core.Bool.{true}
use mathlib.Core.Option.{Option, some}
use mathlib.Core.List.{List, [], ◌∷◌, ◌++◌, map, reverse}
use native.Mathlib.Omega.{arith}
use lib.ListN.{length, take, drop, get_or, set, length-map, get_or-eq_default}
use lib.Seq.{get_or-take, get_or-drop}
use borrow.Rule.Slice.PartMut.{mid_of, put_mid}
use Rattle.lists.proofs.Blocks.{block_in, mid_mid, put_put}
use Rattle.rules.specs.State.{Entry, Process, State, history_of, history_at, in_pool}
use Rattle.rules.specs.Commands.{nothing, turn, apply}
use Rattle.demands.proofs.Frame.{process_of}
use Rattle.rules.specs.Sound.{Sound}
use Rattle.store.specs.Layout.{blocks_from, slot_size, slot_count, block_size, names_room, name_word, Slot, free_slot, slot_words, entry_slot, present_slot, place_slots, slots_at, block, image}
use Rattle.store.proofs.Slots.{slot_back, slot_next}
use Rattle.store.proofs.Moves.{standing, turn_elsewhere, turn_slots, grown, length_slots}
use Rattle.reading.specs.Reads.{control_of, control_at}
use Rattle.store.proofs.SoundStates.{storable}
use Rattle.store.proofs.View.{ElsewhereSame, long_enough, block_within, place_lent, place_back, slot_read}
use Rattle.writing.specs.Slots.{within}

module _ (s : State) (rest l : List ℕ) (e : l ≡ image s ++ rest) (p i from size : ℕ) (hp : p < s.sizes.places) (hi : i < slot_count s.sizes)
    (a : from ≡ blocks_from + p * block_size s.sizes + i * slot_size s.sizes) (c : size ≡ slot_size s.sizes) where
  abbrev start : ℕ
  start = blocks_from + p * block_size s.sizes

  pub slot_inside : from + size ≤ length l
  slot_inside = omega (arith, long_enough s rest l e, block_in p s.sizes.places (block_size s.sizes) hp, block_in i (slot_count s.sizes) (slot_size s.sizes) hi)

  pub slot_there : mid_of from size l ≡ slot_words s.sizes (get_or (slots_at s p) i free_slot)
  slot_there = ap (λ (k : ℕ). mid_of from k l) c ∙ slot_read s rest l e p start (block_size s.sizes) hp refl refl i from hi a

  -- other words put there
  pub slot_put : (s' : State) (w : List ℕ) → ElsewhereSame p s s' → put_mid (i * slot_size s.sizes) (slot_size s.sizes) (block s.sizes (slots_at s p)) w ≡ block s.sizes (slots_at s' p)
      → put_mid from size l w ≡ image s' ++ rest
  slot_put s' w same eb =
      let long = slot_size s.sizes in
      let whole = block_size s.sizes in
      (λ j. put_mid (a j) (c j) l w)
      ∙ sym (put_put start whole (i * long) long l w (block_in i (slot_count s.sizes) long hi) (block_within s rest l e p start whole hp refl refl))
      ∙ place_back s rest l e p start whole hp refl refl s' (put_mid (i * long) long (mid_of start whole l) w) same
      (ap (λ (b : List ℕ). put_mid (i * long) long b w) (place_lent s rest l e p start whole hp refl refl) ∙ eb)

  -- a slot in use changed
  pub slot_changed : (change : List ℕ → List ℕ) (x : Slot) (s' : State) → i < length (slots_at s p) → change (slot_words s.sizes (get_or (slots_at s p) i free_slot)) ≡ slot_words s.sizes x
      → ElsewhereSame p s s' → set (slots_at s p) i x ≡ slots_at s' p → within from size change l ≡ image s' ++ rest
  unfolding within
  slot_changed change x s' h ec same slots =
      let long = slot_size s.sizes in
      ap (λ (w : List ℕ). put_mid from size l (change w)) slot_there
      ∙ ap (put_mid from size l) ec
      ∙ slot_put s' (slot_words s.sizes x) same (slot_back s.sizes (slots_at s p) i (i * long) long hi refl refl x h ∙ ap (block s.sizes) slots)

-- ---- the present of a process

module _ (s : State) (p : ℕ) (process : Process) (lives : s.processes p ≡ some process) where
  pub slots_living : slots_at s p ≡ present_slot process (s.queues p) ∷ map entry_slot (reverse process.history)
  unfolding slots_at place_slots
  slots_living = ap (λ (o : Option Process). place_slots o (s.queues p)) lives

  pub present_there : get_or (slots_at s p) 0 free_slot ≡ present_slot process (s.queues p)
  present_there = ap (λ (xs : List Slot). get_or xs 0 free_slot) slots_living

  pub queue_few : Sound s → length (map name_word (s.queues p)) ≤ names_room s.sizes
  queue_few sound = omega (arith, length-map (s.queues p) name_word, ((storable s sound).queue p).fits)

  module _ (rest l : List ℕ) (e : l ≡ image s ++ rest) (from size : ℕ) (hp : p < s.sizes.places) (a : from ≡ blocks_from + p * block_size s.sizes + 0 * slot_size s.sizes) (c : size ≡ slot_size s.sizes) where
    pub present_lent : mid_of from size l ≡ slot_words s.sizes (present_slot process (s.queues p))
    present_lent = slot_there s rest l e p 0 from size hp (omega arith) a c ∙ ap (slot_words s.sizes) present_there

    pub present_changed : (change : List ℕ → List ℕ) (x : Slot) (s' : State) → change (slot_words s.sizes (present_slot process (s.queues p))) ≡ slot_words s.sizes x
        → ElsewhereSame p s s' → slots_at s' p ≡ x ∷ map entry_slot (reverse process.history) → within from size change l ≡ image s' ++ rest
    present_changed change x s' ec same slots =
        slot_changed s rest l e p 0 from size hp (omega arith) a c change x s' (omega (arith, ap length slots_living)) (ap (λ (y : Slot). change (slot_words s.sizes y)) present_there ∙ ec) same
        (ap (λ (xs : List Slot). set xs 0 x) slots_living ∙ sym slots)

    -- one of its words, and the first of them
    pub present_word : (j : ℕ) → j < slot_size s.sizes → get_or l (from + j) 0 ≡ get_or (slot_words s.sizes (present_slot process (s.queues p))) j 0
    present_word j h = sym (get_or-take size (drop from l) j 0 (omega arith) ∙ get_or-drop from l j 0) ∙ ap (λ (w : List ℕ). get_or w j 0) present_lent

    pub present_front : (k : ℕ) → k ≤ slot_size s.sizes → mid_of from k l ≡ take k (slot_words s.sizes (present_slot process (s.queues p)))
    present_front k h =
        let same : from ≡ from + 0 = omega arith in
        ap (λ (j : ℕ). mid_of j k l) same ∙ sym (mid_mid from size 0 k l (omega arith)) ∙ ap (take k) present_lent

-- the first words of a slot put there
pub front_put : (l y : List ℕ) (to size k : ℕ) → k ≤ size → to + size ≤ length l → put_mid to k l y ≡ put_mid to size l (put_mid 0 k (mid_of to size l) y)
front_put l y to size k h g = let same : to ≡ to + 0 = omega arith in ap (λ (j : ℕ). put_mid j k l y) same ∙ sym (put_put to size 0 k l y (omega arith) g)

pub elsewhere_back : {p : ℕ} {s t : State} → ElsewhereSame p s t → ElsewhereSame p t s
elsewhere_back a = record { same_module = sym a.same_module; same_sizes = sym a.same_sizes; same_slots = λ q n. sym (a.same_slots q n) }

pub standing_there : (s : State) (p : ℕ) → in_pool s p ≡ true → s.processes p ≡ some (standing (control_at s p) (history_at s p))
unfolding control_at control_of history_at history_of
standing_there s p h = let (process, e) = process_of s p h in e ∙ (λ i. some (standing (control_of (sym e i)) (history_of (sym e i))))

-- ---- the slot of one entry more

module _ (s : State) (rest l : List ℕ) (e : l ≡ image s ++ rest) (p : ℕ) (control : List ℕ) (h : List Entry) (lives : s.processes p ≡ some (standing control h)) (to size : ℕ) (hp : p < s.sizes.places)
    (few : length h < s.sizes.entries) (a : to ≡ blocks_from + p * block_size s.sizes + suc (length h) * slot_size s.sizes) (c : size ≡ slot_size s.sizes) where
  slots_of : slots_at s p ≡ place_slots (some (standing control h)) (s.queues p)
  unfolding slots_at
  slots_of = ap (λ (o : Option Process). place_slots o (s.queues p)) lives

  slots_long : length (slots_at s p) ≡ suc (length h)
  slots_long = ap length slots_of ∙ length_slots (standing control h) (s.queues p)

  pub free_there : mid_of to size l ≡ slot_words s.sizes free_slot
  free_there = slot_there s rest l e p (suc (length h)) to size hp (omega arith) a c ∙ ap (slot_words s.sizes) (get_or-eq_default (slots_at s p) free_slot {n = suc (length h)} (omega (arith, slots_long)))

  pub free_inside : to + size ≤ length l
  free_inside = slot_inside s rest l e p (suc (length h)) to size hp (omega arith) a c

  pub made_image : (x : Entry) (w : List ℕ) → w ≡ slot_words s.sizes (entry_slot x) → put_mid to size l w ≡ image (apply (turn p (standing control (x ∷ h)) nothing) s) ++ rest
  made_image x w ew =
      let long = slot_size s.sizes in
      let after = standing control (x ∷ h) in
      ap (put_mid to size l) ew
      ∙ slot_put s rest l e p (suc (length h)) to size hp (omega arith) a c (apply (turn p after nothing) s) (slot_words s.sizes (entry_slot x)) (turn_elsewhere p s after)
      (slot_next s.sizes (slots_at s p) (suc (length h)) (suc (length h) * long) long (omega arith) refl refl (entry_slot x) (sym slots_long)
      ∙ ap (block s.sizes) (ap (λ (xs : List Slot). xs ++ (entry_slot x ∷ [])) slots_of ∙ sym (grown control x h (s.queues p)) ∙ sym (turn_slots p s after)))

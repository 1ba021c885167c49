-- A state whose image stands in a slice of 32-bit words has a module and controls of 32-bit words.
use Prim.Native.Nat.{ℕ, ◌+◌, ◌*◌, ◌≤◌, ◌<◌}
use mathlib.Core.Path.{◌≡◌, refl, sym, subst}
use mathlib.Core.Logic.{◌⊎◌, inl, inr}
use mathlib.Core.Bool.{true, false}
use mathlib.Core.Option.{Option, none, some}
use mathlib.Core.List.{List, ◌++◌, map, reverse, reverse-reverse}
use lib.Dec.{ltb}
use lib.ListN.{length, drop}
use Rattle.lists.specs.Lists.{All}
use Rattle.lists.specs.Fill.{fill_to}
use Rattle.lists.proofs.Tests.{true_or_false, ltb-true, ltb_false}
use Rattle.lists.proofs.All.{all_both, all_head, all_take, all_drop, all_unjoined, all_unmap, all_reverse}
use Rattle.lists.proofs.Fill.{all_unfill}
use Rattle.rules.specs.State.{Sizes, Process, State, history_of, history_at}
use Rattle.store.specs.Layout.{head_words, blocks_from, slot_head, slot_count, block_size, Slot, free_slot, slot_words, entry_slot, present_slot, place_slots, slots_at, block, image}
use Rattle.store.specs.ImageLaws.{IsWord, Worded}
use Rattle.store.proofs.Reading.{FitsSlot}
use Rattle.store.proofs.Decoding.{Storable, slots_few, slots_fit}
use Rattle.store.proofs.Histories.{all_entry}
use Rattle.store.proofs.Slots.{control_lent}
use Rattle.store.proofs.View.{module_lent, place_lent}

-- the slots of a block of such words
block_slots : (sizes : Sizes) (xs : List Slot) → length xs ≤ slot_count sizes → All IsWord (block sizes xs) → All (λ x. All IsWord (slot_words sizes x)) xs
unfolding block
block_slots sizes xs few a =
    let slots = fill_to (slot_count sizes) free_slot xs in
    all_unfill (λ x. All IsWord (slot_words sizes x)) (slot_count sizes) free_slot xs few (all_unmap (All IsWord) (slot_words sizes) slots (all_unjoined IsWord (map (slot_words sizes) slots) a))

slot_control : (sizes : Sizes) (x : Slot) → All IsWord (slot_words sizes x) → FitsSlot sizes x → All IsWord x.control
slot_control sizes x a f =
    subst (All IsWord) (control_lent sizes x (length x.control) refl f.control_fits) (all_take IsWord (length x.control) (drop slot_head (slot_words sizes x)) (all_drop IsWord slot_head (slot_words sizes x) a))

module _ (s : State) (stored : Storable s) (rest l : List ℕ) (e : l ≡ image s ++ rest) (words : All IsWord l) where
  controls_worded : (p : ℕ) → p < s.sizes.places → All (λ x. All IsWord x.control) (slots_at s p)
  controls_worded p h =
      let at = blocks_from + p * block_size s.sizes in
      let lent = place_lent s rest l e p at (block_size s.sizes) h refl refl in
      let whole = subst (All IsWord) lent (all_take IsWord (block_size s.sizes) (drop at l) (all_drop IsWord at l words)) in
      all_both (slot_control s.sizes) (slots_at s p) (block_slots s.sizes (slots_at s p) (slots_few s stored p) whole) (slots_fit s stored p)

  -- the controls of a place, in the pool or not
  place_worded : (p : ℕ) → All (λ x. All IsWord x.control) (slots_at s p)
  unfolding slots_at place_slots All
  place_worded p = go (true_or_false (ltb p s.sizes.places))
    where
      go : (ltb p s.sizes.places ≡ true) ⊎ (ltb p s.sizes.places ≡ false) → All (λ x. All IsWord x.control) (slots_at s p)
      go (inl t) = controls_worded p (ltb-true p s.sizes.places t)
      go (inr f) = subst (λ (o : Option Process). All (λ x. All IsWord x.control) (place_slots o (s.queues p))) (sym (stored.pool_ends p (ltb_false p s.sizes.places f))) tt

  present_worded : (p : ℕ) (process : Process) → s.processes p ≡ some process → All IsWord process.control
  unfolding slots_at place_slots
  present_worded p process same =
      all_head (λ x. All IsWord x.control) (present_slot process (s.queues p)) (map entry_slot (reverse process.history))
      (subst (λ (o : Option Process). All (λ x. All IsWord x.control) (place_slots o (s.queues p))) same (place_worded p))

  history_worded : (p : ℕ) → All (λ e. All IsWord e.before) (history_at s p)
  unfolding slots_at place_slots history_at history_of All
  history_worded p = go (s.processes p) (place_worded p)
    where
      go : (o : Option Process) → All (λ x. All IsWord x.control) (place_slots o (s.queues p)) → All (λ e. All IsWord e.before) (history_of o)
      go none a = tt
      go (some process) a =
          subst (All (λ e. All IsWord e.before)) (reverse-reverse process.history)
          (all_reverse (λ e. All IsWord e.before) (reverse process.history)
          (all_unmap (λ x. All IsWord x.control) entry_slot (reverse process.history) a.1))

  pub worded : Worded s
  worded = record {
    module_words = subst (All IsWord) (module_lent s rest l e (length s.module') refl stored.module_fits) (all_take IsWord (length s.module') (drop head_words l) (all_drop IsWord head_words l words));
    control_words = present_worded;
    before_words = λ p i y stands. all_entry (λ z. All IsWord z.before) (history_at s p) i (history_worded p) stands;
  }

-- A block and its slots, a slot and its words: what is lent, and what comes back.
use Prim.Native.Nat.{ℕ, ◌+◌, ◌*◌, ◌≤◌, ◌<◌}
use mathlib.Core.Path.{◌≡◌, refl, sym, ◌∙◌, ap}
use mathlib.Core.List.{List, [], ◌∷◌, ◌++◌, map}
use native.Mathlib.Omega.{arith}
use lib.ListN.{length, take, drop, get_or, set, replicate, replicate-append-replicate}
use lib.Seq.{take_all, take_at, drop_at, drop-drop, take-append-le}
use borrow.Rule.Slice.PartMut.{mid_of, put_mid}
use Rattle.lists.specs.Lists.{joined}
use Rattle.lists.specs.Fill.{fill_to}
use Rattle.lists.proofs.All.{map_at, map_set}
use Rattle.lists.proofs.Fill.{length_fill, take_fill, fill_none, get_d_fill, fill_set, fill_more, fill_less}
use Rattle.lists.proofs.Blocks.{block_lent_alone, block_back_alone}
use Rattle.rules.specs.State.{Sizes}
use Rattle.store.specs.Layout.{slot_head, names_room, slot_size, slot_count, Slot, free_slot, slot_words, block}
use Rattle.store.proofs.Lengths.{each_slot, slots_in}

-- ---- the words of a slot

-- a free slot is zeros
pub free_zeros : (sizes : Sizes) → slot_words sizes free_slot ≡ replicate (slot_size sizes) 0
unfolding slot_words
free_zeros sizes =
    ap (λ (r : List ℕ). 0 ∷ 0 ∷ 0 ∷ 0 ∷ 0 ∷ 0 ∷ 0 ∷ 0 ∷ r) ((λ i. fill_none sizes.words 0 i ++ fill_none (names_room sizes) 0 i) ∙ replicate-append-replicate sizes.words (names_room sizes) 0)
    ∙ replicate-append-replicate slot_head (sizes.words + names_room sizes) 0

-- the eight words before the control
abbrev pub slot_front : Slot → List ℕ
slot_front x = x.kind ∷ length x.control ∷ x.number ∷ 0 ∷ length x.names ∷ 0 ∷ 0 ∷ 0 ∷ []

module _ (sizes : Sizes) (x : Slot) where
  pub kind_word : get_or (slot_words sizes x) 0 0 ≡ x.kind
  unfolding slot_words
  kind_word = refl

  pub control_length_word : get_or (slot_words sizes x) 1 0 ≡ length x.control
  unfolding slot_words
  control_length_word = refl

  pub number_word : get_or (slot_words sizes x) 2 0 ≡ x.number
  unfolding slot_words
  number_word = refl

  pub names_length_word : get_or (slot_words sizes x) 4 0 ≡ length x.names
  unfolding slot_words
  names_length_word = refl

  pub control_lent : (count : ℕ) → count ≡ length x.control → length x.control ≤ sizes.words → mid_of slot_head count (slot_words sizes x) ≡ x.control
  unfolding slot_words
  control_lent count e h =
      let control = fill_to sizes.words 0 x.control in
      let names = fill_to (names_room sizes) 0 x.names in
      ap (λ (n : ℕ). take n (control ++ names)) e
      ∙ take-append-le (length x.control) control names (omega (arith, length_fill sizes.words 0 x.control))
      ∙ take_fill sizes.words 0 x.control h

  pub names_lent : (at count : ℕ) → at ≡ slot_head + sizes.words → count ≡ length x.names → length x.names ≤ names_room sizes → mid_of at count (slot_words sizes x) ≡ x.names
  unfolding slot_words
  names_lent at count a e h =
      let control = fill_to sizes.words 0 x.control in
      let names = fill_to (names_room sizes) 0 x.names in
      ap (take count) (ap (λ (n : ℕ). drop n (slot_front x ++ (control ++ names))) a ∙ sym (drop-drop sizes.words slot_head (slot_front x ++ (control ++ names))) ∙ drop_at control names sizes.words (length_fill sizes.words 0 x.control))
      ∙ ap (λ (n : ℕ). take n names) e ∙ take_fill (names_room sizes) 0 x.names h

  -- the room of the control and the room of the names, zeros and all
  pub control_room : mid_of slot_head sizes.words (slot_words sizes x) ≡ fill_to sizes.words 0 x.control
  unfolding slot_words
  control_room = take_at (fill_to sizes.words 0 x.control) (fill_to (names_room sizes) 0 x.names) sizes.words (length_fill sizes.words 0 x.control)

  pub names_room_lem : mid_of (slot_head + sizes.words) (names_room sizes) (slot_words sizes x) ≡ fill_to (names_room sizes) 0 x.names
  unfolding slot_words
  names_room_lem =
      let control = fill_to sizes.words 0 x.control in
      let names = fill_to (names_room sizes) 0 x.names in
      ap (take (names_room sizes)) (sym (drop-drop sizes.words slot_head (slot_front x ++ (control ++ names))) ∙ drop_at control names sizes.words (length_fill sizes.words 0 x.control))
      ∙ take_all (names_room sizes) names (omega (arith, length_fill (names_room sizes) 0 x.names))

-- ---- the slots of a block

module _ (sizes : Sizes) (xs : List Slot) (i at count : ℕ) (in_block : i < slot_count sizes) (a : at ≡ i * slot_size sizes) (c : count ≡ slot_size sizes) where
  pub slot_lent : mid_of at count (block sizes xs) ≡ slot_words sizes (get_or xs i free_slot)
  unfolding block
  slot_lent =
      let slots = fill_to (slot_count sizes) free_slot xs in
      block_lent_alone at count (slot_size sizes) i (map (slot_words sizes) slots) a c (each_slot sizes slots) (omega (arith, slots_in sizes xs))
      ∙ map_at (slot_words sizes) i slots free_slot [] (omega (arith, length_fill (slot_count sizes) free_slot xs))
      ∙ ap (slot_words sizes) (get_d_fill (slot_count sizes) free_slot xs i in_block)

  slot_set : (x : Slot) → put_mid at count (block sizes xs) (slot_words sizes x) ≡ joined (map (slot_words sizes) (set (fill_to (slot_count sizes) free_slot xs) i x))
  unfolding block
  slot_set x =
      let slots = fill_to (slot_count sizes) free_slot xs in
      block_back_alone at count (slot_size sizes) i (map (slot_words sizes) slots) (slot_words sizes x) a c (each_slot sizes slots) (omega (arith, slots_in sizes xs))
      ∙ ap joined (map_set (slot_words sizes) i slots x)

  -- a slot in use replaced
  pub slot_back : (x : Slot) → i < length xs → put_mid at count (block sizes xs) (slot_words sizes x) ≡ block sizes (set xs i x)
  unfolding block
  slot_back x h = slot_set x ∙ ap (λ (ys : List Slot). joined (map (slot_words sizes) ys)) (sym (fill_set (slot_count sizes) free_slot xs i x h))

  -- the first free slot taken into use
  pub slot_next : (x : Slot) → i ≡ length xs → put_mid at count (block sizes xs) (slot_words sizes x) ≡ block sizes (xs ++ (x ∷ []))
  unfolding block
  slot_next x e = slot_set x ∙ ap (λ (ys : List Slot). joined (map (slot_words sizes) ys)) (ap (λ (n : ℕ). set (fill_to (slot_count sizes) free_slot xs) n x) e ∙ sym (fill_more (slot_count sizes) free_slot xs x))

-- the last slot in use given back
pub slot_freed : (sizes : Sizes) (xs : List Slot) (x : Slot) (at count : ℕ) → length xs < slot_count sizes → at ≡ length xs * slot_size sizes → count ≡ slot_size sizes
    → put_mid at count (block sizes (xs ++ (x ∷ []))) (replicate (slot_size sizes) 0) ≡ block sizes xs
unfolding block
slot_freed sizes xs x at count h a c =
    ap (put_mid at count (block sizes (xs ++ (x ∷ [])))) (sym (free_zeros sizes))
    ∙ slot_set sizes (xs ++ (x ∷ [])) (length xs) at count h a c free_slot
    ∙ ap (λ (ys : List Slot). joined (map (slot_words sizes) ys)) (sym (fill_less (slot_count sizes) free_slot xs x))

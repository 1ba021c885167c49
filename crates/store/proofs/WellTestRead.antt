-- A store that keeps the layout, said of slots one behind the other and said of all slots of each block: the same.
use Prim.Native.Nat.{ℕ, zero, suc, ◌+◌, ◌*◌, ◌≤◌, ◌<◌}
use mathlib.Core.Path.{◌≡◌, refl, sym, ◌∙◌, ap, subst}
use mathlib.Core.Logic.{inl, inr}
use mathlib.Core.List.{List, [], ◌∷◌, ◌++◌, map, append-nil}
use native.Mathlib.Nat.{suc-mul}
use native.Mathlib.Omega.{arith}
use borrow.Rule.Slice.PartMut.{mid_of}
use lib.Dec.{eqb}
use lib.ListN.{length, take, drop, get_or, replicate, length-drop, drop_of_length-le}
use lib.Seq.{length-take-le, get_or-take}
use Rattle.lists.specs.Lists.{All, joined}
use Rattle.lists.proofs.Tests.{true_or_false, eqb-true, eqb-false, eqb_of, eqb_apart, cond_true, cond_false}
use Rattle.lists.proofs.All.{all_so, all_both, all_take, all_drop, all_map, all_unmap, all_joined}
use Rattle.lists.proofs.Blocks.{chop, chop_again, block_in}
use Rattle.rules.specs.State.{Sizes}
use Rattle.store.specs.Layout.{blocks_from, slot_size, slot_count, block_size, needed, kind_free, Slot, free_slot, slot_words}
use Rattle.store.specs.Image.{IsImage}
use Rattle.store.specs.Formed.{IsZero, WellSlot, WellSlots, WellFormedStore}
use Rattle.store.proofs.Slots.{free_zeros}
use Rattle.store.proofs.Reading.{read_slot, leading, read_sizes, read_module, read_place}
use Rattle.store.proofs.SoundSlots.{SoundSlots}
use Rattle.store.proofs.WellFormed.{WellBlock, well_slot, slot_again, read_zeros}
use Rattle.store.proofs.Tested.{Tested, image_passes}
use Rattle.store.proofs.WellTestBlock.{slots_free, free_slots, slots_used, used_slots}

-- ---- zeros

zeros_are : (l : List ℕ) (n : ℕ) → length l ≡ n → All IsZero l → l ≡ replicate n 0
unfolding All
zeros_are [] zero e a = refl
zeros_are [] (suc n) e a = absurd (omega arith)
zeros_are (x ∷ l) zero e a = absurd (omega arith)
zeros_are (x ∷ l) (suc n) e a = λ i. a.0 i ∷ zeros_are l n (omega arith) a.1 i

zeros_replicate : (n : ℕ) → All IsZero (replicate n 0)
unfolding All
zeros_replicate zero = tt
zeros_replicate (suc n) = (refl, zeros_replicate n)

chopped_zeros : (n size : ℕ) (l : List ℕ) → length l ≡ n * size → All IsZero l → All (λ b. b ≡ replicate size 0) (chop n size l)
unfolding chop All
chopped_zeros zero size l e a = tt
chopped_zeros (suc n) size l e a =
    let more = suc-mul n size in (
      zeros_are (take size l) size (length-take-le size l (omega arith)) (all_take IsZero size l a),
      chopped_zeros n size (drop size l) (length-drop size l ∙ omega arith) (all_drop IsZero size l a),
    )

-- ---- the slots of a block

module _ (sizes : Sizes) where
  -- the slots that are read, those behind the leading ones being free
  pub record ReadWell (xs : List (List ℕ)) : Type 0 where
    pub well : All (WellSlot sizes) xs
    pub behind : All (λ x. x ≡ free_slot) (drop (length (leading (map (read_slot sizes) xs))) (map (read_slot sizes) xs))

  kind_read : (l : List ℕ) → (read_slot sizes (take (slot_size sizes) l)).kind ≡ get_or l 0 0
  unfolding read_slot
  kind_read l = get_or-take (slot_size sizes) l 0 0 (omega arith)

  zero_slot : WellSlot sizes (replicate (slot_size sizes) 0)
  zero_slot = subst (WellSlot sizes) (free_zeros sizes) (well_slot sizes free_slot (record { control_fits = omega arith; names_fit = omega arith }))

  all_free : (xs : List (List ℕ)) → All (λ b. b ≡ replicate (slot_size sizes) 0) xs → All (λ x. x ≡ free_slot) (map (read_slot sizes) xs)
  all_free xs a = all_map (λ x. x ≡ free_slot) (read_slot sizes) xs (all_so (λ b e. ap (read_slot sizes) e ∙ read_zeros sizes) xs a)

  -- where the first slot is free, there are no leading ones
  module _ (w : List ℕ) (xs : List (List ℕ)) where
    leading_none : (read_slot sizes w).kind ≡ kind_free → leading (map (read_slot sizes) (w ∷ xs)) ≡ []
    unfolding leading
    leading_none k = cond_true [] (read_slot sizes w ∷ leading (map (read_slot sizes) xs)) (eqb_of (read_slot sizes w).kind kind_free k)

    leading_one : ¬ ((read_slot sizes w).kind ≡ kind_free) → leading (map (read_slot sizes) (w ∷ xs)) ≡ read_slot sizes w ∷ leading (map (read_slot sizes) xs)
    unfolding leading
    leading_one k = cond_false [] (read_slot sizes w ∷ leading (map (read_slot sizes) xs)) (eqb_apart (read_slot sizes w).kind kind_free k)

    read_free : (read_slot sizes w).kind ≡ kind_free → All (WellSlot sizes) (w ∷ xs) → All (λ x. x ≡ free_slot) (map (read_slot sizes) (w ∷ xs)) → ReadWell (w ∷ xs)
    read_free k a f = record { well = a; behind = subst (λ (ys : List Slot). All (λ x. x ≡ free_slot) (drop (length ys) (map (read_slot sizes) (w ∷ xs)))) (sym (leading_none k)) f }

    free_read : (read_slot sizes w).kind ≡ kind_free → ReadWell (w ∷ xs) → All (λ x. x ≡ free_slot) (map (read_slot sizes) (w ∷ xs))
    free_read k x = subst (λ (ys : List Slot). All (λ x. x ≡ free_slot) (drop (length ys) (map (read_slot sizes) (w ∷ xs)))) (leading_none k) x.behind

    read_used : ¬ ((read_slot sizes w).kind ≡ kind_free) → WellSlot sizes w → ReadWell xs → ReadWell (w ∷ xs)
    unfolding All
    read_used k y x = record { well = (y, x.well); behind = subst (λ (ys : List Slot). All (λ x. x ≡ free_slot) (drop (length ys) (map (read_slot sizes) (w ∷ xs)))) (sym (leading_one k)) x.behind }

    used_read : ¬ ((read_slot sizes w).kind ≡ kind_free) → ReadWell (w ∷ xs) → WellSlot sizes w × ReadWell xs
    unfolding All
    used_read k x = (x.well.0, record { well = x.well.1; behind = subst (λ (ys : List Slot). All (λ x. x ≡ free_slot) (drop (length ys) (map (read_slot sizes) (w ∷ xs)))) (leading_one k) x.behind })

  -- ---- both ways

  free_words : (xs : List (List ℕ)) → All (WellSlot sizes) xs → All (λ x. x ≡ free_slot) (map (read_slot sizes) xs) → All (All IsZero) xs
  free_words xs a f =
      all_both (λ b y e. subst (All IsZero) (sym (ap (slot_words sizes) e ∙ free_zeros sizes) ∙ slot_again sizes b y) (zeros_replicate (slot_size sizes))) xs a (all_unmap (λ x. x ≡ free_slot) (read_slot sizes) xs f)

  module _ (n : ℕ) (l : List ℕ) (e : length l ≡ suc n * slot_size sizes) where
    first : List ℕ
    first = take (slot_size sizes) l

    others : List (List ℕ)
    others = chop n (slot_size sizes) (drop (slot_size sizes) l)

    whole_zeros : All (All IsZero) (first ∷ others) → All IsZero l
    unfolding chop first others
    whole_zeros a =
        let none_left : drop (suc n * slot_size sizes) l ≡ [] = drop_of_length-le l {i = suc n * slot_size sizes} (omega arith) in
        subst (All IsZero) (sym (append-nil (joined (chop (suc n) (slot_size sizes) l))) ∙ ap (λ (r : List ℕ). joined (chop (suc n) (slot_size sizes) l) ++ r) (sym none_left) ∙ chop_again (suc n) (slot_size sizes) l)
        (all_joined IsZero (chop (suc n) (slot_size sizes) l) a)

    read_more : (WellSlots sizes n (drop (slot_size sizes) l) → ReadWell others) → WellSlots sizes (suc n) l → ReadWell (first ∷ others)
    unfolding first others chop
    read_more more x = elim (true_or_false (eqb (get_or l 0 0) kind_free)) [
      | inl t ↦
          let k = eqb-true (get_or l 0 0) kind_free t in
          let z = chopped_zeros (suc n) (slot_size sizes) l e (free_slots sizes n l k x) in
          read_free first others (kind_read l ∙ k) (all_so (λ b q. subst (WellSlot sizes) (sym q) zero_slot) (first ∷ others) z) (all_free (first ∷ others) z)
      | inr f ↦
          let k = eqb-false (get_or l 0 0) kind_free f in
          let y = used_slots sizes n l k x in
          read_used first others (λ q. k (sym (kind_read l) ∙ q)) y.0 (more y.1)
    ]

    more_read : (ReadWell others → WellSlots sizes n (drop (slot_size sizes) l)) → ReadWell (first ∷ others) → WellSlots sizes (suc n) l
    unfolding first others
    more_read more x = elim (true_or_false (eqb (get_or l 0 0) kind_free)) [
      | inl t ↦
          let k = eqb-true (get_or l 0 0) kind_free t in
          slots_free sizes n l k (whole_zeros (free_words (first ∷ others) x.well (free_read first others (kind_read l ∙ k) x)))
      | inr f ↦
          let k = eqb-false (get_or l 0 0) kind_free f in
          let y = used_read first others (λ q. k (sym (kind_read l) ∙ q)) x in
          slots_used sizes n l k y.0 (more y.1)
    ]

  slots_read : (n : ℕ) (l : List ℕ) → length l ≡ n * slot_size sizes → WellSlots sizes n l → ReadWell (chop n (slot_size sizes) l)
  unfolding chop first others All leading
  slots_read zero l e x = record { well = tt; behind = tt }
  slots_read (suc n) l e x = read_more n l e (slots_read n (drop (slot_size sizes) l) (length-drop (slot_size sizes) l ∙ omega (arith, suc-mul n (slot_size sizes)))) x

  read_slots : (n : ℕ) (l : List ℕ) → length l ≡ n * slot_size sizes → ReadWell (chop n (slot_size sizes) l) → WellSlots sizes n l
  unfolding chop first others WellSlots
  read_slots zero l e x = tt
  read_slots (suc n) l e x = more_read n l e (read_slots n (drop (slot_size sizes) l) (length-drop (slot_size sizes) l ∙ omega (arith, suc-mul n (slot_size sizes)))) x

  -- a block
  pub slots_block : (b : List ℕ) → length b ≡ block_size sizes → WellSlots sizes (slot_count sizes) b → WellBlock sizes b
  slots_block b e x = let y = slots_read (slot_count sizes) b e x in record { long = e; slots = y.well; free_behind = y.behind }

  pub block_slots : (b : List ℕ) → WellBlock sizes b → WellSlots sizes (slot_count sizes) b
  block_slots b x = read_slots (slot_count sizes) b x.long (record { well = x.slots; behind = x.free_behind })

-- ---- the store

module _ (l : List ℕ) where
  -- a block within the store
  block_long : (sizes : Sizes) (p : ℕ) → needed sizes ≤ length l → p < sizes.places → length (mid_of (blocks_from + p * block_size sizes) (block_size sizes) l) ≡ block_size sizes
  block_long sizes p long h = length-take-le (block_size sizes) (drop (blocks_from + p * block_size sizes) l) (omega (arith, block_in p sizes.places (block_size sizes) h, length-drop (blocks_from + p * block_size sizes) l))

  -- what the test of layout leaves to be tested
  pub formed_tested : WellFormedStore l → SoundSlots (read_module l) (read_sizes l) (read_place (read_sizes l) l) → Tested l
  unfolding read_sizes
  formed_tested x sound = record {
    long = x.long;
    module_fits = x.module_fits;
    module_zeros = x.module_zeros;
    blocks = λ p h. slots_block (read_sizes l) (mid_of (blocks_from + p * block_size (read_sizes l)) (block_size (read_sizes l)) l) (block_long (read_sizes l) p x.long h) (x.blocks p h);
    sound = sound;
  }

  pub tested_formed : Tested l → WellFormedStore l
  unfolding read_sizes
  tested_formed x = record {
    sizes_pass = x.sound.sizes_pass;
    long = x.long;
    module_fits = x.module_fits;
    module_zeros = x.module_zeros;
    blocks = λ p h. block_slots (read_sizes l) (mid_of (blocks_from + p * block_size (read_sizes l)) (block_size (read_sizes l)) l) (x.blocks p h);
  }

  -- a store that does not keep the layout is no image
  pub image_formed : IsImage l → WellFormedStore l
  image_formed x = tested_formed (image_passes l x)

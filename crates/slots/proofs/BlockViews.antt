-- The blocks of a store that keeps the layout, and the slots that are read of them: what is collected from the words of all slots is collected
-- from the slots in use.
use Prim.Native.Nat.{ℕ, zero, suc, ◌+◌, ◌*◌, ◌≤◌, ◌<◌}
use mathlib.Core.Path.{◌≡◌, refl, sym, ◌∙◌, ap, subst}
use mathlib.Core.Logic.{inl, inr}
use mathlib.Core.Bool.{not}
use mathlib.Core.List.{List, [], ◌∷◌, ◌++◌, map, tail}
use native.Mathlib.Nat.{suc-mul}
use native.Mathlib.Decide.{dec_lt}
use native.Mathlib.Omega.{arith}
use borrow.Rule.Slice.PartMut.{mid_of}
use lib.Dec.{eqb}
use lib.ListN.{length, take, drop, get_or, length-drop, get_or-eq_default}
use lib.Seq.{get_or-take, drop-drop, length-take-le}
use Rattle.lists.specs.Lists.{All, joined}
use Rattle.lists.proofs.Tests.{true_or_false, eqb-true, eqb-false, eqb_of, eqb_apart, cond_true, cond_false}
use Rattle.lists.proofs.All.{all_get_d, all_drop}
use Rattle.lists.proofs.Blocks.{chop, chop_at, block_in, mid_mid}
use Rattle.rules.specs.State.{Sizes}
use Rattle.store.specs.Layout.{blocks_from, slot_head, slot_size, slot_count, block_size, needed, kind_free, Slot}
use Rattle.store.specs.Formed.{IsZero, WellSlot, WellSlots, sizes_in, WellFormedStore}
use Rattle.store.proofs.Reading.{read_slot, leading, read_block, read_place}
use Rattle.store.proofs.SoundSlots.{is_live}
use Rattle.store.proofs.SoundSlots
use Rattle.store.proofs.WellTestBlock.{free_slots, used_slots}
use Rattle.slots.specs.SoundTests.{kind_word, names_in}
use Rattle.slots.proofs.SoundTestWalk.{mid_take}

module _ (sizes : Sizes) where
  abbrev size : ℕ
  size = slot_size sizes

  kind_take : (l : List ℕ) → get_or (take size l) 0 0 ≡ get_or l 0 0
  kind_take l = get_or-take size l 0 0 (omega arith)

  -- ---- slots one behind the other

  module _ {X : Type 0} (g : List ℕ → List X) (h : Slot → List X) (same : (w : List ℕ) → WellSlot sizes w → g w ≡ h (read_slot sizes w)) (zeros : (w : List ℕ) → get_or w 0 0 ≡ 0 → g w ≡ []) where
    none_zero : (n : ℕ) (l : List ℕ) → All IsZero l → joined (map g (chop n size l)) ≡ []
    unfolding chop joined
    none_zero zero l a = refl
    none_zero (suc n) l a = (λ i. zeros (take size l) (kind_take l ∙ first l a) i ++ none_zero n (drop size l) (all_drop IsZero size l a) i)
      where
        first : (l : List ℕ) → All IsZero l → get_or l 0 0 ≡ 0
        first [] b = refl
        first (x ∷ xs) b = all_get_d IsZero (x ∷ xs) 0 0 b (omega arith)

    leading_free : (w : List ℕ) (ws : List (List ℕ)) → get_or w 0 0 ≡ kind_free → joined (map h (leading (map (read_slot sizes) (w ∷ ws)))) ≡ []
    unfolding leading joined read_slot
    leading_free w ws k = ap (λ (xs : List Slot). joined (map h xs)) (cond_true [] (read_slot sizes w ∷ leading (map (read_slot sizes) ws)) (eqb_of (get_or w 0 0) kind_free k))

    leading_used : (w : List ℕ) (ws : List (List ℕ)) → ¬ (get_or w 0 0 ≡ kind_free) → joined (map h (leading (map (read_slot sizes) (w ∷ ws)))) ≡ h (read_slot sizes w) ++ joined (map h (leading (map (read_slot sizes) ws)))
    unfolding leading joined read_slot
    leading_used w ws k = ap (λ (xs : List Slot). joined (map h xs)) (cond_false [] (read_slot sizes w ∷ leading (map (read_slot sizes) ws)) (eqb_apart (get_or w 0 0) kind_free k))

    pub collected : (n : ℕ) (l : List ℕ) → length l ≡ n * size → WellSlots sizes n l → joined (map g (chop n size l)) ≡ joined (map h (leading (map (read_slot sizes) (chop n size l))))
    unfolding chop joined leading
    collected zero l e x = refl
    collected (suc n) l e x = elim (true_or_false (eqb (get_or l 0 0) kind_free)) [
      | inl t ↦ (
          let k = eqb-true (get_or l 0 0) kind_free t in
          none_zero (suc n) l (free_slots sizes n l k x) ∙ sym (leading_free (take size l) (chop n size (drop size l)) (kind_take l ∙ k)))
      | inr f ↦ (
          let k = eqb-false (get_or l 0 0) kind_free f in
          let y = used_slots sizes n l k x in
          (λ i. same (take size l) y.0 i ++ collected n (drop size l) (length-drop size l ∙ omega (arith, suc-mul n size)) y.1 i)
          ∙ sym (leading_used (take size l) (chop n size (drop size l)) (λ q. k (sym (kind_take l) ∙ q))))
    ]

  -- ---- a block

  -- the words of its entries' slots
  abbrev pub entries_in : List ℕ → List (List ℕ)
  entries_in b = chop sizes.entries size (drop size b)

  module _ (b : List ℕ) (long : length b ≡ block_size sizes) (well : WellSlots sizes (slot_count sizes) b) where
    pub read_free : get_or b 0 0 ≡ kind_free → read_block sizes b ≡ []
    unfolding read_block chop leading read_slot
    read_free k = cond_true [] (read_slot sizes (take size b) ∷ leading (map (read_slot sizes) (entries_in b))) (eqb_of (get_or (take size b) 0 0) kind_free (kind_take b ∙ k))

    pub read_used : ¬ (get_or b 0 0 ≡ kind_free) → read_block sizes b ≡ read_slot sizes (take size b) ∷ leading (map (read_slot sizes) (entries_in b))
    unfolding read_block chop leading read_slot
    read_used k = cond_false [] (read_slot sizes (take size b) ∷ leading (map (read_slot sizes) (entries_in b))) (eqb_apart (get_or (take size b) 0 0) kind_free (λ q. k (sym (kind_take b) ∙ q)))

    -- a place has a process where its first slot is in use
    pub live_read : not (eqb (kind_word b) kind_free) ≡ is_live (read_block sizes b)
    unfolding is_live
    live_read = elim (true_or_false (eqb (get_or b 0 0) kind_free)) [
      | inl t ↦ ap not t ∙ sym (ap is_live (read_free (eqb-true (get_or b 0 0) kind_free t)))
      | inr f ↦ ap not f ∙ sym (ap is_live (read_used (eqb-false (get_or b 0 0) kind_free f)))
    ]

    -- its queue
    pub names_read : names_in sizes.words b ≡ SoundSlots.names_in (read_block sizes b)
    unfolding SoundSlots.names_in read_slot
    names_read = elim (true_or_false (eqb (get_or b 0 0) kind_free)) [
      | inl t ↦ (
          let k = eqb-true (get_or b 0 0) kind_free t in
          ap (λ (n : ℕ). take n (drop (slot_head + sizes.words) b)) (zero_word b (free_slots sizes sizes.entries b k well))
          ∙ sym (ap SoundSlots.names_in (read_free k)))
      | inr f ↦ (
          let k = eqb-false (get_or b 0 0) kind_free f in
          let y = (used_slots sizes sizes.entries b k well).0 in
          sym (mid_take (slot_head + sizes.words) (get_or b 4 0) size b (omega (arith, y.names_fit, fourth)))
          ∙ (λ i. take (sym fourth i) (sym (drop-drop sizes.words slot_head (take size b)) i))
          ∙ sym (ap SoundSlots.names_in (read_used k)))
    ]
      where
        zero_word : (l : List ℕ) → All IsZero l → get_or l 4 0 ≡ 0
        zero_word l a = go (dec_lt 4 (length l))
          where
            go : Dec (4 < length l) → get_or l 4 0 ≡ 0
            go (yes h) = all_get_d IsZero l 4 0 a h
            go (no h) = get_or-eq_default l 0 (omega (arith, h))

        fourth : get_or (take size b) 4 0 ≡ get_or b 4 0
        fourth = get_or-take size b 4 0 (omega arith)

    -- what is collected from its entries
    pub entries_collected : {X : Type 0} (g : List ℕ → List X) (h : Slot → List X) → ((w : List ℕ) → WellSlot sizes w → g w ≡ h (read_slot sizes w)) → ((w : List ℕ) → get_or w 0 0 ≡ 0 → g w ≡ [])
        → joined (map g (entries_in b)) ≡ joined (map h (tail (read_block sizes b)))
    unfolding joined
    entries_collected g h same zeros = elim (true_or_false (eqb (get_or b 0 0) kind_free)) [
      | inl t ↦ (
          let k = eqb-true (get_or b 0 0) kind_free t in
          none_zero g h same zeros sizes.entries (drop size b) (all_drop IsZero size b (free_slots sizes sizes.entries b k well))
          ∙ sym (ap (λ (xs : List Slot). joined (map h (tail xs))) (read_free k)))
      | inr f ↦ (
          let k = eqb-false (get_or b 0 0) kind_free f in
          let y = used_slots sizes sizes.entries b k well in
          collected g h same zeros sizes.entries (drop size b) (length-drop size b ∙ omega (arith, long, suc-mul sizes.entries size)) y.1
          ∙ sym (ap (λ (xs : List Slot). joined (map h (tail xs))) (read_used k)))
    ]

-- ---- the store

module _ (sizes : Sizes) (l : List ℕ) (formed : WellFormedStore l) (same : sizes ≡ sizes_in l) where
  abbrev pub blocks_in : List (List ℕ)
  blocks_in = chop sizes.places (block_size sizes) (mid_of blocks_from (sizes.places * block_size sizes) l)

  pub block_at : (p : ℕ) → p < sizes.places → get_or blocks_in p [] ≡ mid_of (blocks_from + p * block_size sizes) (block_size sizes) l
  block_at p h = chop_at sizes.places (block_size sizes) p (mid_of blocks_from (sizes.places * block_size sizes) l) h ∙ mid_mid blocks_from (sizes.places * block_size sizes) (p * block_size sizes) (block_size sizes) l (block_in p sizes.places (block_size sizes) h)

  pub block_long : (p : ℕ) → p < sizes.places → length (get_or blocks_in p []) ≡ block_size sizes
  block_long p h =
      ap length (block_at p h)
      ∙ length-take-le (block_size sizes) (drop (blocks_from + p * block_size sizes) l) (omega (arith, subst (λ (z : Sizes). needed z ≤ length l) (sym same) formed.long, block_in p sizes.places (block_size sizes) h, length-drop (blocks_from + p * block_size sizes) l))

  pub block_well : (p : ℕ) → p < sizes.places → WellSlots sizes (slot_count sizes) (get_or blocks_in p [])
  block_well p h = subst (WellSlots sizes (slot_count sizes)) (sym (block_at p h)) (subst (λ (z : Sizes). (p : ℕ) → p < z.places → WellSlots z (slot_count z) (mid_of (blocks_from + p * block_size z) (block_size z) l)) (sym same) formed.blocks p h)

  pub place_read : (p : ℕ) → p < sizes.places → read_place sizes l p ≡ read_block sizes (get_or blocks_in p [])
  unfolding read_place
  place_read p h = ap (read_block sizes) (chop_at sizes.places (block_size sizes) p (drop blocks_from l) h ∙ ap (take (block_size sizes)) (drop-drop (p * block_size sizes) blocks_from l) ∙ sym (block_at p h))

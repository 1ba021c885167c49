-- The blocks of a store that keeps the layout: what the tests of slots need of them.
use Prim.Native.Nat.{ℕ, zero, suc, ◌-◌, ◌*◌, ◌≤◌, ◌<◌}
use mathlib.Core.Path.{◌≡◌, refl, sym, ◌∙◌, ap, subst}
use mathlib.Core.Bool.{Bool}
use mathlib.Core.List.{List, [], ◌∷◌}
use native.Mathlib.Nat.{suc-mul}
use native.Mathlib.Omega.{arith}
use borrow.Rule.Slice.PartMut.{mid_of}
use lib.ListN.{length, take, drop, get_or, length-drop}
use lib.Seq.{length-take-le}
use Rattle.lists.specs.Lists.{All}
use Rattle.lists.proofs.All.{all_so, all_take, all_drop}
use Rattle.lists.proofs.Blocks.{chop, length_chop}
use Rattle.rules.specs.State.{Sizes}
use Rattle.store.specs.Layout.{blocks_from, slot_size, slot_count, block_size, needed, kind_free}
use Rattle.store.specs.Formed.{IsZero, WellSlot, WellSlots, sizes_in, WellFormedStore}
use Rattle.store.proofs.WellTestBlock.{free_slots}
use Rattle.store.proofs.WellTestRead.{slots_block}
use Rattle.slots.specs.SoundTests.{kind_word, NamesFit, ControlFits}
use Rattle.slots.specs.SendTests.{entry_slots}
use Rattle.soundness.specs.StoreTests.{WholeBlock, blocks_in, SlotsTested, StoreTested}
use Rattle.slots.proofs.SoundTestWalk.{below_take}
use Rattle.slots.proofs.BlockViews.{block_long, block_well}

-- what holds at each place of a list holds of all its elements
pub all_at : {A : Type 0} (P : A → Type 0) (d : A) (xs : List A) → ((i : ℕ) → i < length xs → P (get_or xs i d)) → All P xs
unfolding All
all_at P d [] f = tt
all_at P d (x ∷ xs) f = (f 0 (omega arith), all_at P d xs (λ i h. f (suc i) (omega arith)))

zero_at : (l : List ℕ) (i : ℕ) → All IsZero l → get_or l i 0 ≡ 0
unfolding All
zero_at [] i a = refl
zero_at (x ∷ l) zero a = a.0
zero_at (x ∷ l) (suc i) a = zero_at l i a.1

zero_kinds : (n size : ℕ) (l : List ℕ) → All IsZero l → All (λ w. kind_word w ≡ kind_free) (chop n size l)
unfolding chop All
zero_kinds zero size l a = tt
zero_kinds (suc n) size l a = (zero_at (take size l) 0 (all_take IsZero size l a), zero_kinds n size (drop size l) (all_drop IsZero size l a))

module _ (sizes : Sizes) (b : List ℕ) (long : length b ≡ block_size sizes) (well : WellSlots sizes (slot_count sizes) b) where
  pub well_slots : WellSlot sizes (take (slot_size sizes) b) × All (WellSlot sizes) (entry_slots (slot_size sizes) sizes.entries b)
  unfolding chop All
  well_slots = let x = (slots_block sizes b long well).slots in (x.0, x.1)

  slot_control : (w : List ℕ) → WellSlot sizes w → ControlFits w
  slot_control w x = omega (arith, x.long, x.control_fits)

  slot_names : (w : List ℕ) → WellSlot sizes w → NamesFit sizes.words w
  slot_names w x = omega (arith, x.long, x.names_fit)

  slot_names_0 : (w : List ℕ) → WellSlot sizes w → NamesFit 0 w
  slot_names_0 w x = omega (arith, x.long, x.names_fit)

  first_in : slot_size sizes ≤ length b
  first_in = omega (arith, long, suc-mul sizes.entries (slot_size sizes))

  others_long : length (drop (slot_size sizes) b) ≡ sizes.entries * slot_size sizes
  others_long = length-drop (slot_size sizes) b ∙ omega (arith, long, suc-mul sizes.entries (slot_size sizes))

  present_names : NamesFit sizes.words b
  present_names = omega (arith, slot_names (take (slot_size sizes) b) well_slots.0, first_in, length-take-le (slot_size sizes) b first_in, below_take (slot_size sizes) 4 b (omega arith))

  present_names_0 : NamesFit 0 b
  present_names_0 = omega (arith, present_names)

  pub well_whole : WholeBlock sizes.words (slot_size sizes) sizes.entries b
  well_whole =
      let slots = entry_slots (slot_size sizes) sizes.entries b in
      record {
        controls = record {
          block = record { present_fits = present_names_0; first_fits = first_in; slots = record { long = others_long; names_fit = all_so slot_names_0 slots well_slots.1 } };
          head_fits = omega arith;
          present_control = slot_control (take (slot_size sizes) b) well_slots.0;
          controls = all_so slot_control slots well_slots.1;
        };
        names = record { present_fits = present_names; first_fits = first_in; slots = record { long = others_long; names_fit = all_so slot_names slots well_slots.1 } };
        free = λ k. zero_kinds sizes.entries (slot_size sizes) (drop (slot_size sizes) b) (all_drop IsZero (slot_size sizes) b (free_slots sizes sizes.entries b k well));
      }

-- ---- all blocks of a store

module _ (l : List ℕ) (formed : WellFormedStore l) where
  abbrev sizes : Sizes
  sizes = sizes_in l

  abbrev region : List ℕ
  region = mid_of blocks_from (sizes.places * block_size sizes) l

  region_long : length region ≡ sizes.places * block_size sizes
  region_long = length-take-le (sizes.places * block_size sizes) (drop blocks_from l) (omega (arith, length-drop blocks_from l, formed.long))

  pub blocks_whole : All (WholeBlock (sizes_in l).words (slot_size (sizes_in l)) (sizes_in l).entries) (blocks_in l)
  blocks_whole = all_at (WholeBlock sizes.words (slot_size sizes) sizes.entries) [] (blocks_in l) (λ p h. (
      let inside : p < get_or l 0 0 = omega (arith, length_chop sizes.places (block_size sizes) region) in
      well_whole sizes (get_or (blocks_in l) p []) (block_long sizes l formed refl p inside) (block_well sizes l formed refl p inside)))

  -- as the code lends them
  module _ (size len all : ℕ) (es : size ≡ slot_size (sizes_in l)) (el : len ≡ block_size (sizes_in l)) (ea : all ≡ needed (sizes_in l)) where
    lent : take (all - 516) (drop 516 l) ≡ region
    lent = let count : all - 516 ≡ sizes.places * block_size sizes = omega arith in ap (λ (n : ℕ). take n (drop 516 l)) count

    lent_blocks : chop (get_or l 0 0) len (take (all - 516) (drop 516 l)) ≡ blocks_in l
    lent_blocks = (λ i. chop (get_or l 0 0) (el i) (lent i))

    pub long_at : length (take (all - 516) (drop 516 l)) ≡ get_or l 0 0 * len
    long_at = ap length lent ∙ region_long ∙ ap (λ (n : ℕ). get_or l 0 0 * n) (sym el)

    pub whole_at : All (WholeBlock (get_or l 2 0) size (get_or l 1 0)) (chop (get_or l 0 0) len (take (all - 516) (drop 516 l)))
    whole_at = subst (λ (n : ℕ). All (WholeBlock (get_or l 2 0) n (get_or l 1 0)) (chop (get_or l 0 0) len (take (all - 516) (drop 516 l)))) (sym es) (subst (All (WholeBlock sizes.words (slot_size sizes) sizes.entries)) (sym lent_blocks) blocks_whole)

    pub tested_at : (arities : List ℕ) (r : Bool) → SlotsTested (get_or l 0 0) (get_or l 1 0) (get_or l 2 0) size arities (chop (get_or l 0 0) len (take (all - 516) (drop 516 l))) r → StoreTested l arities r
    tested_at arities r x = subst (λ (n : ℕ). SlotsTested (get_or l 0 0) (get_or l 1 0) (get_or l 2 0) n arities (blocks_in l) r) es (subst (λ (bs : List (List ℕ)). SlotsTested (get_or l 0 0) (get_or l 1 0) (get_or l 2 0) size arities bs r) lent_blocks x)

  -- the same with the sizes that the code read
  module _ (s : Sizes) (e : s ≡ sizes_in l) (size len all : ℕ) (es : size ≡ slot_size s) (el : len ≡ block_size s) (ea : all ≡ needed s) where
    pub lent_long : length (take (all - 516) (drop 516 l)) ≡ s.places * len
    lent_long = long_at size len all (es ∙ ap slot_size e) (el ∙ ap block_size e) (ea ∙ ap needed e) ∙ ap (λ (z : Sizes). z.places * len) (sym e)

    pub lent_whole : All (WholeBlock s.words size s.entries) (chop s.places len (take (all - 516) (drop 516 l)))
    lent_whole = subst (λ (z : Sizes). All (WholeBlock z.words size z.entries) (chop z.places len (take (all - 516) (drop 516 l)))) (sym e) (whole_at size len all (es ∙ ap slot_size e) (el ∙ ap block_size e) (ea ∙ ap needed e))

    pub store_tested : (arities : List ℕ) (r : Bool) → SlotsTested s.places s.entries s.words size arities (chop s.places len (take (all - 516) (drop 516 l))) r → StoreTested l arities r
    store_tested arities r x =
        tested_at size len all (es ∙ ap slot_size e) (el ∙ ap block_size e) (ea ∙ ap needed e) arities r
        (subst (λ (z : Sizes). SlotsTested z.places z.entries z.words size arities (chop z.places len (take (all - 516) (drop 516 l))) r) e x)

-- Words that keep the layout: slots, blocks and heads whose unused words are zeros are just what is read of them.
use Prim.Native.Nat.{ℕ, ◌+◌, ◌-◌, ◌*◌, ◌≤◌, ◌<◌}
use mathlib.Core.Path.{◌≡◌, refl, sym, ◌∙◌, ap, subst}
use mathlib.Core.Bool.{cond, Bool, true, false}
use mathlib.Core.List.{List, [], ◌∷◌, ◌++◌, map, append_assoc, append-nil}
use native.Mathlib.Omega.{arith}
use lib.Dec.{eqb}
use lib.ListN.{length, take, drop, get_or, replicate, length-drop, length-map, take-append-drop, drop_of_length-le}
use lib.Seq.{take_all, take-take, drop-drop, drop-cons, take-add, length-take-le, ext_get_or}
use borrow.Rule.Slice.PartMut.{mid_of}
use Rattle.lists.specs.Lists.{All, up_to, joined}
use Rattle.lists.specs.Fill.{fill_to}
use Rattle.lists.proofs.All.{all_so, all_map, map_same, maps_after}
use Rattle.lists.proofs.Fill.{all_fill, fill_again, behind_fill}
use Rattle.lists.proofs.Blocks.{chop, chop_is, chop_again, length_chop, chop_at, length_numbered, numbered_at}
use Rattle.term.specs.Module.{longest_module}
use Rattle.rules.specs.State.{Sizes}
use Rattle.store.specs.Layout.{head_words, blocks_from, slot_head, names_room, slot_size, slot_count, block_size, needed, kind_free, Slot, free_slot, slot_words, block, head, laid}
pub use Rattle.store.specs.Formed.{IsZero, WellSlot}
use Rattle.store.proofs.Lengths.{length_slot, each_slot, slots_in, length_block, block_at}
use Rattle.store.proofs.Reading.{FitsSlot, Used, read_slot, read_slot_lem, leading, leading_fill, read_block, read_sizes, read_module, read_place}
use Rattle.store.proofs.Slots.{free_zeros, control_room, names_room_lem}

-- ---- slots

-- a list begins with its first eight elements
eight : (w : List ℕ) → 8 ≤ length w → w ≡ get_or w 0 0 ∷ get_or w 1 0 ∷ get_or w 2 0 ∷ get_or w 3 0 ∷ get_or w 4 0 ∷ get_or w 5 0 ∷ get_or w 6 0 ∷ get_or w 7 0 ∷ drop 8 w
eight w h = drop-cons w 0 0 (omega arith) ∙ ap (λ (r : List ℕ). get_or w 0 0 ∷ r) (drop-cons w 1 0 (omega arith) ∙ ap (λ (r : List ℕ). get_or w 1 0 ∷ r) (drop-cons w 2 0 (omega arith) ∙ ap (λ (r : List ℕ). get_or w 2 0 ∷ r) (drop-cons w 3 0 (omega arith) ∙ ap (λ (r : List ℕ). get_or w 3 0 ∷ r) (drop-cons w 4 0 (omega arith) ∙ ap (λ (r : List ℕ). get_or w 4 0 ∷ r) (drop-cons w 5 0 (omega arith) ∙ ap (λ (r : List ℕ). get_or w 5 0 ∷ r) (drop-cons w 6 0 (omega arith) ∙ ap (λ (r : List ℕ). get_or w 6 0 ∷ r) (drop-cons w 7 0 (omega arith))))))))

module _ (sizes : Sizes) (w : List ℕ) (x : WellSlot sizes w) where
  abbrev behind : List ℕ
  behind = drop slot_head w

  behind_long : length behind ≡ sizes.words + names_room sizes
  behind_long = length-drop slot_head w ∙ omega (arith, x.long)

  -- the control, filled up
  control_again : fill_to sizes.words 0 (take (get_or w 1 0) behind) ≡ take sizes.words behind
  control_again =
      ap (fill_to sizes.words 0) (sym (take-take (get_or w 1 0) sizes.words behind x.control_fits))
      ∙ fill_again sizes.words (get_or w 1 0) 0 (take sizes.words behind) (length-take-le sizes.words behind (omega (arith, behind_long))) x.control_zeros

  -- the names, filled up
  names_again : fill_to (names_room sizes) 0 (take (get_or w 4 0) (drop sizes.words behind)) ≡ drop sizes.words behind
  names_again =
      let region = drop sizes.words behind in
      let long : length region ≡ names_room sizes = length-drop sizes.words behind ∙ omega (arith, behind_long) in
      let whole : mid_of (slot_head + sizes.words) (names_room sizes) w ≡ region = ap (take (names_room sizes)) (sym (drop-drop sizes.words slot_head w)) ∙ take_all (names_room sizes) region (omega (arith, long)) in
      fill_again (names_room sizes) (get_or w 4 0) 0 region long (subst (λ (r : List ℕ). All IsZero (drop (get_or w 4 0) r)) whole x.names_zeros)

  pub slot_again : slot_words sizes (read_slot sizes w) ≡ w
  unfolding slot_words read_slot
  slot_again =
      let control = length-take-le (get_or w 1 0) behind (omega (arith, behind_long, x.control_fits)) in
      let names = length-take-le (get_or w 4 0) (drop sizes.words behind) (omega (arith, behind_long, length-drop sizes.words behind, x.names_fit)) in
      (λ i. get_or w 0 0 ∷ control i ∷ get_or w 2 0 ∷ sym x.zero_3 i ∷ names i ∷ sym x.zero_5 i ∷ sym x.zero_6 i ∷ sym x.zero_7 i ∷ (control_again i ++ names_again i))
      ∙ ap (λ (r : List ℕ). get_or w 0 0 ∷ get_or w 1 0 ∷ get_or w 2 0 ∷ get_or w 3 0 ∷ get_or w 4 0 ∷ get_or w 5 0 ∷ get_or w 6 0 ∷ get_or w 7 0 ∷ r) (take-append-drop sizes.words behind)
      ∙ sym (eight w (omega (arith, x.long)))

-- a slot's words keep the layout
pub well_slot : (sizes : Sizes) (y : Slot) → FitsSlot sizes y → WellSlot sizes (slot_words sizes y)
unfolding slot_words
well_slot sizes y f = record {
  long = length_slot sizes y;
  zero_3 = refl;
  zero_5 = refl;
  zero_6 = refl;
  zero_7 = refl;
  control_fits = f.control_fits;
  control_zeros = subst (λ (r : List ℕ). All IsZero (drop (length y.control) r)) (sym (control_room sizes y)) (behind_fill sizes.words 0 y.control);
  names_fit = f.names_fit;
  names_zeros = subst (λ (r : List ℕ). All IsZero (drop (length y.names) r)) (sym (names_room_lem sizes y)) (behind_fill (names_room sizes) 0 y.names);
}

-- zeros are a free slot
pub read_zeros : (sizes : Sizes) → read_slot sizes (replicate (slot_size sizes) 0) ≡ free_slot
read_zeros sizes = ap (read_slot sizes) (sym (free_zeros sizes)) ∙ read_slot_lem sizes free_slot (record { control_fits = omega arith; names_fit = omega arith })

-- ---- blocks

-- the slots of a block, free ones and all
abbrev pub all_slots : Sizes → List ℕ → List Slot
all_slots sizes b = map (read_slot sizes) (chop (slot_count sizes) (slot_size sizes) b)

-- the leading slots stand first
leading_first : (xs : List Slot) → take (length (leading xs)) xs ≡ leading xs
unfolding leading
leading_first [] = refl
leading_first (x ∷ xs) = go (eqb x.kind kind_free) (leading_first xs)
  where
    go : (b : Bool) → take (length (leading xs)) xs ≡ leading xs → take (length (cond b [] (x ∷ leading xs))) (x ∷ xs) ≡ cond b [] (x ∷ leading xs)
    go true r = refl
    go false r = ap (λ (ys : List Slot). x ∷ ys) r

pub record WellBlock (sizes : Sizes) (b : List ℕ) : Type 0 where
  pub long : length b ≡ block_size sizes
  pub slots : All (WellSlot sizes) (chop (slot_count sizes) (slot_size sizes) b)
  pub free_behind : All (λ x. x ≡ free_slot) (drop (length (leading (all_slots sizes b))) (all_slots sizes b))

pub block_again : (sizes : Sizes) (b : List ℕ) → WellBlock sizes b → block sizes (read_block sizes b) ≡ b
unfolding block read_block
block_again sizes b x =
    let xs = all_slots sizes b in
    let count : length xs ≡ slot_count sizes = length-map (chop (slot_count sizes) (slot_size sizes) b) (read_slot sizes) ∙ length_chop (slot_count sizes) (slot_size sizes) b in
    ap (λ (ys : List Slot). joined (map (slot_words sizes) (fill_to (slot_count sizes) free_slot ys))) (sym (leading_first xs))
    ∙ ap (λ (ys : List Slot). joined (map (slot_words sizes) ys)) (fill_again (slot_count sizes) (length (leading xs)) free_slot xs count x.free_behind)
    ∙ ap joined (maps_after (read_slot sizes) (slot_words sizes) (chop (slot_count sizes) (slot_size sizes) b) ∙ map_same (λ w. slot_words sizes (read_slot sizes w)) (chop (slot_count sizes) (slot_size sizes) b) (all_so (slot_again sizes) (chop (slot_count sizes) (slot_size sizes) b) x.slots))
    ∙ sym (append-nil (joined (chop (slot_count sizes) (slot_size sizes) b)))
    ∙ ap (λ (r : List ℕ). joined (chop (slot_count sizes) (slot_size sizes) b) ++ r) (sym (drop_of_length-le b {i = block_size sizes} (omega (arith, x.long))))
    ∙ chop_again (slot_count sizes) (slot_size sizes) b

-- a block of slots keeps the layout
pub well_block : (sizes : Sizes) (xs : List Slot) → length xs ≤ slot_count sizes → All Used xs → All (FitsSlot sizes) xs → WellBlock sizes (block sizes xs)
unfolding block
well_block sizes xs few used fit =
    let slots = fill_to (slot_count sizes) free_slot xs in
    let fits = all_fill (FitsSlot sizes) (slot_count sizes) free_slot xs (record { control_fits = omega arith; names_fit = omega arith }) fit in
    let chopped : chop (slot_count sizes) (slot_size sizes) (block sizes xs) ≡ map (slot_words sizes) slots =
    ap (chop (slot_count sizes) (slot_size sizes)) (sym (append-nil (block sizes xs))) ∙ chop_is (slot_count sizes) (slot_size sizes) (map (slot_words sizes) slots) [] (slots_in sizes xs) (each_slot sizes slots) in
    let again : all_slots sizes (block sizes xs) ≡ slots =
    ap (map (read_slot sizes)) chopped ∙ maps_after (slot_words sizes) (read_slot sizes) slots ∙ map_same (λ y. read_slot sizes (slot_words sizes y)) slots (all_so (read_slot_lem sizes) slots fits) in
    record {
      long = length_block sizes xs;
      slots = subst (All (WellSlot sizes)) (sym chopped) (all_map (WellSlot sizes) (slot_words sizes) slots (all_so (well_slot sizes) slots fits));
      free_behind = subst (λ (ys : List Slot). All (λ x. x ≡ free_slot) (drop (length (leading ys)) ys)) (sym again)
          (subst (λ (ys : List Slot). All (λ x. x ≡ free_slot) (drop (length ys) slots)) (sym (leading_fill (slot_count sizes) xs few used)) (behind_fill (slot_count sizes) free_slot xs));
    }

-- ---- the head

four : (w : List ℕ) → 4 ≤ length w → w ≡ get_or w 0 0 ∷ get_or w 1 0 ∷ get_or w 2 0 ∷ get_or w 3 0 ∷ drop 4 w
four w h = drop-cons w 0 0 (omega arith) ∙ ap (λ (r : List ℕ). get_or w 0 0 ∷ r) (drop-cons w 1 0 (omega arith) ∙ ap (λ (r : List ℕ). get_or w 1 0 ∷ r) (drop-cons w 2 0 (omega arith) ∙ ap (λ (r : List ℕ). get_or w 2 0 ∷ r) (drop-cons w 3 0 (omega arith))))

pub head_again : (l : List ℕ) → blocks_from ≤ length l → get_or l 3 0 ≤ longest_module → All IsZero (drop (get_or l 3 0) (mid_of head_words longest_module l)) → take blocks_from l ≡ head (read_module l) (read_sizes l)
unfolding head read_module read_sizes
head_again l long fits zeros =
    let behind' = drop head_words l in
    let room : length behind' ≡ length l - head_words = length-drop head_words l in
    let named : length (take (get_or l 3 0) behind') ≡ get_or l 3 0 = length-take-le (get_or l 3 0) behind' (omega (arith, room)) in
    let filled : fill_to longest_module 0 (take (get_or l 3 0) behind') ≡ take longest_module behind' =
    ap (fill_to longest_module 0) (sym (take-take (get_or l 3 0) longest_module behind' fits))
    ∙ fill_again longest_module (get_or l 3 0) 0 (take longest_module behind') (length-take-le longest_module behind' (omega (arith, room))) zeros in
    take-add head_words longest_module l
    ∙ ap (λ (r : List ℕ). take head_words r ++ take longest_module behind') (four l (omega arith))
    ∙ (λ i. get_or l 0 0 ∷ get_or l 1 0 ∷ get_or l 2 0 ∷ sym named i ∷ sym filled i)

-- ---- the whole

pub laid_again : (l module' : List ℕ) (sizes : Sizes) → needed sizes ≤ length l → take blocks_from l ≡ head module' sizes
    → ((p : ℕ) → p < sizes.places → WellBlock sizes (mid_of (p * block_size sizes) (block_size sizes) (drop blocks_from l)))
    → l ≡ laid module' sizes (read_place sizes l) ++ drop (needed sizes) l
unfolding laid read_place
laid_again l module' sizes long front well =
    let count = sizes.places in
    let size = block_size sizes in
    let tail' = drop blocks_from l in
    let chopped = chop count size tail' in
    let blocks = map (block_at sizes (read_place sizes l)) (up_to count) in
    let same : chopped ≡ blocks = ext_get_or [] chopped blocks (length_chop count size tail' ∙ sym (length_numbered (block_at sizes (read_place sizes l)) count)) (λ p h. at p (omega (arith, length_chop count size tail'))) in
    sym (take-append-drop blocks_from l)
    ∙ (λ i. front i ++ sym (chop_again count size tail') i)
    ∙ (λ i. head module' sizes ++ (joined (same i) ++ drop-drop (count * size) blocks_from l i))
    ∙ sym (append_assoc (head module' sizes) (joined blocks) (drop (needed sizes) l))
  where
    at : (p : ℕ) → p < sizes.places → get_or (chop sizes.places (block_size sizes) (drop blocks_from l)) p [] ≡ get_or (map (block_at sizes (read_place sizes l)) (up_to sizes.places)) p []
    at p h =
        let lent = chop_at sizes.places (block_size sizes) p (drop blocks_from l) h in
        lent ∙ sym (block_again sizes (mid_of (p * block_size sizes) (block_size sizes) (drop blocks_from l)) (well p h))
        ∙ ap (λ (b : List ℕ). block sizes (read_block sizes b)) (sym lent)
        ∙ sym (numbered_at (block_at sizes (read_place sizes l)) sizes.places p h)

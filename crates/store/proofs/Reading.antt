-- Reading slots off words: what is read are the slots that were laid out.
use Prim.Native.Nat.{ℕ, zero, suc, ◌≤◌, ◌<◌}
use mathlib.Core.Path.{◌≡◌, refl, sym, ◌∙◌, ap}
use mathlib.Core.Bool.{cond}
use mathlib.Core.List.{List, [], ◌∷◌, ◌++◌, map, append_assoc, append-nil}
use native.Mathlib.Omega.{arith}
use lib.Dec.{eqb}
use lib.ListN.{length, take, drop, get_or, get_or-eq_default}
use lib.Seq.{drop_at, take-append-le, take-nil}
use Rattle.lists.specs.Lists.{All, up_to, joined}
use Rattle.lists.specs.Fill.{fill_to}
use Rattle.lists.proofs.Tests.{eqb_of, eqb_apart, cond_true, cond_false}
use Rattle.lists.proofs.All.{all_so, map_same, maps_after}
use Rattle.lists.proofs.Fill.{length_fill, take_fill, all_fill}
use Rattle.lists.proofs.Blocks.{chop, chop_is, length_chop, length_numbered, numbered_at}
use Rattle.term.specs.Module.{longest_module}
use Rattle.rules.specs.State.{Sizes}
use Rattle.store.specs.Layout.{head_words, blocks_from, slot_head, names_room, slot_size, slot_count, block_size, kind_free, Slot, free_slot, slot_words, block, head, laid}
use Rattle.store.proofs.Lengths.{each_slot, slots_in, block_at, each_block, length_head}

-- ---- one slot

unfoldable pub read_slot : Sizes → List ℕ → Slot
read_slot sizes l = record {
  kind = get_or l 0 0;
  number = get_or l 2 0;
  control = take (get_or l 1 0) (drop slot_head l);
  names = take (get_or l 4 0) (drop sizes.words (drop slot_head l));
}

-- what a slot has room for
pub record FitsSlot (sizes : Sizes) (x : Slot) : Type 0 where
  pub control_fits : length x.control ≤ sizes.words
  pub names_fit : length x.names ≤ names_room sizes

pub read_slot_lem : (sizes : Sizes) (x : Slot) → FitsSlot sizes x → read_slot sizes (slot_words sizes x) ≡ x
unfolding read_slot slot_words
read_slot_lem sizes x f =
    let control = fill_to sizes.words 0 x.control in
    let names = fill_to (names_room sizes) 0 x.names in
    let full : length control ≡ sizes.words = length_fill sizes.words 0 x.control in
    let c : take (length x.control) (control ++ names) ≡ x.control =
    take-append-le (length x.control) control names (omega (arith, full, f.control_fits)) ∙ take_fill sizes.words 0 x.control f.control_fits in
    let n : take (length x.names) (drop sizes.words (control ++ names)) ≡ x.names =
    ap (take (length x.names)) (drop_at control names sizes.words full) ∙ take_fill (names_room sizes) 0 x.names f.names_fit in
    λ i. record { kind = x.kind; number = x.number; control = c i; names = n i }

-- ---- the slots of a block: those before the first free one

unfoldable pub leading : List Slot → List Slot
leading [] = []
leading (x ∷ xs) = cond (eqb x.kind kind_free) [] (x ∷ leading xs)

abbrev pub Used : Slot → Type 0
Used x = ¬ (x.kind ≡ kind_free)

pub leading_fill : (n : ℕ) (xs : List Slot) → length xs ≤ n → All Used xs → leading (fill_to n free_slot xs) ≡ xs
unfolding leading fill_to All
leading_fill zero [] h a = refl
leading_fill zero (x ∷ xs) h a = absurd (omega arith)
leading_fill (suc n) [] h a = refl
leading_fill (suc n) (x ∷ xs) h a = cond_false [] (x ∷ leading (fill_to n free_slot xs)) (eqb_apart x.kind kind_free a.0) ∙ ap (λ (r : List Slot). x ∷ r) (leading_fill n xs (omega arith) a.1)

unfoldable pub read_block : Sizes → List ℕ → List Slot
read_block sizes l = leading (map (read_slot sizes) (chop (slot_count sizes) (slot_size sizes) l))

pub read_block_lem : (sizes : Sizes) (xs : List Slot) (rest : List ℕ) → length xs ≤ slot_count sizes → All Used xs → All (FitsSlot sizes) xs → read_block sizes (block sizes xs ++ rest) ≡ xs
unfolding read_block block
read_block_lem sizes xs rest few used fit =
    let slots = fill_to (slot_count sizes) free_slot xs in
    let free : FitsSlot sizes free_slot = record { control_fits = omega arith; names_fit = omega arith } in
    ap (λ (bs : List (List ℕ)). leading (map (read_slot sizes) bs)) (chop_is (slot_count sizes) (slot_size sizes) (map (slot_words sizes) slots) rest (slots_in sizes xs) (each_slot sizes slots))
    ∙ ap leading (maps_after (slot_words sizes) (read_slot sizes) slots ∙ map_same (λ x. read_slot sizes (slot_words sizes x)) slots (all_so (read_slot_lem sizes) slots (all_fill (FitsSlot sizes) (slot_count sizes) free_slot xs free fit)))
    ∙ leading_fill (slot_count sizes) xs few used

-- nothing is read off no words
pub read_nothing : (sizes : Sizes) → read_block sizes [] ≡ []
unfolding read_block read_slot chop leading
read_nothing sizes = cond_true [] (read_slot sizes (take (slot_size sizes) []) ∷ leading (map (read_slot sizes) (chop sizes.entries (slot_size sizes) (drop (slot_size sizes) [])))) (eqb_of (get_or (take (slot_size sizes) []) 0 0) kind_free (ap (λ (l : List ℕ). get_or l 0 0) (take-nil (slot_size sizes))))

-- ---- the slots of a place; past the last place there are none

unfoldable pub read_sizes : List ℕ → Sizes
read_sizes l = record { places = get_or l 0 0; entries = get_or l 1 0; words = get_or l 2 0 }

unfoldable pub read_module : List ℕ → List ℕ
read_module l = take (get_or l 3 0) (drop head_words l)

unfoldable pub read_place : Sizes → List ℕ → ℕ → List Slot
read_place sizes l p = read_block sizes (get_or (chop sizes.places (block_size sizes) (drop blocks_from l)) p [])

-- ---- what is read off words that were laid out

module _ (module' : List ℕ) (sizes : Sizes) (places : ℕ → List Slot) (rest : List ℕ) where
  abbrev pub words : List ℕ
  words = laid module' sizes places ++ rest

  blocks : List (List ℕ)
  blocks = map (block_at sizes places) (up_to sizes.places)

  past_head : drop blocks_from words ≡ joined blocks ++ rest
  unfolding laid blocks
  past_head = ap (drop blocks_from) (append_assoc (head module' sizes) (joined blocks) rest) ∙ drop_at (head module' sizes) (joined blocks ++ rest) blocks_from (length_head module' sizes)

  pub read_sizes_lem : read_sizes words ≡ sizes
  unfolding read_sizes laid head
  read_sizes_lem = refl

  pub read_module_lem : length module' ≤ longest_module → read_module words ≡ module'
  unfolding read_module laid head
  read_module_lem h =
      let filled = fill_to longest_module 0 module' in
      let blocks' = joined (map (block_at sizes places) (up_to sizes.places)) in
      ap (take (length module')) (append_assoc filled blocks' rest)
      ∙ take-append-le (length module') filled (blocks' ++ rest) (omega (arith, length_fill longest_module 0 module'))
      ∙ take_fill longest_module 0 module' h

  pub read_place_lem : (p : ℕ) → p < sizes.places → length (places p) ≤ slot_count sizes → All Used (places p) → All (FitsSlot sizes) (places p) → read_place sizes words p ≡ places p
  unfolding read_place blocks
  read_place_lem p h few used fit =
      ap (λ (l : List ℕ). read_block sizes (get_or (chop sizes.places (block_size sizes) l) p [])) past_head
      ∙ ap (λ (bs : List (List ℕ)). read_block sizes (get_or bs p [])) (chop_is sizes.places (block_size sizes) blocks rest (length_numbered (block_at sizes places) sizes.places) (each_block sizes places (up_to sizes.places)))
      ∙ ap (read_block sizes) (numbered_at (block_at sizes places) sizes.places p h ∙ sym (append-nil (block_at sizes places p)))
      ∙ read_block_lem sizes (places p) [] few used fit

-- past the last place nothing is read
pub read_past : (sizes : Sizes) (l : List ℕ) (p : ℕ) → sizes.places ≤ p → read_place sizes l p ≡ []
unfolding read_place
read_past sizes l p h =
    let blocks = chop sizes.places (block_size sizes) (drop blocks_from l) in
    ap (read_block sizes) (get_or-eq_default blocks [] (omega (arith, length_chop sizes.places (block_size sizes) (drop blocks_from l)))) ∙ read_nothing sizes

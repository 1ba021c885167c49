-- A store that holds a state: its first words, its module, the block of a place, and what it holds when a block comes back changed.
use Prim.Native.Nat.{ℕ, ◌+◌, ◌*◌, ◌≤◌, ◌<◌}
use mathlib.Core.Path.{◌≡◌, refl, sym, ◌∙◌, ap}
use mathlib.Core.List.{List, ◌++◌, map, append_assoc}
use native.Mathlib.Omega.{arith}
use lib.ListN.{length, take, get_or, length-append}
use lib.Seq.{take_at}
use borrow.Rule.Slice.PartMut.{mid_of, put_mid}
use Rattle.lists.specs.Lists.{up_to, joined}
use Rattle.lists.specs.Fill.{fill_to}
use Rattle.lists.proofs.Fill.{length_fill}
use Rattle.lists.proofs.Blocks.{block_in, block_lent, block_back, length_numbered, numbered_at, numbered_set, mid_behind, put_behind, mid_mid}
use Rattle.term.specs.Module.{longest_module}
use Rattle.rules.specs.State.{State}
use Rattle.store.specs.Layout.{head_words, blocks_from, slot_size, slot_count, block_size, needed, free_slot, slot_words, slots_at, block, head, laid, image}
use Rattle.store.proofs.Lengths.{block_at, each_block, length_head, length_image}
use Rattle.store.proofs.Reading.{read_module, read_module_lem}
use Rattle.store.proofs.Slots.{slot_lent}

-- two states of one module and sizes whose slots differ at one place alone
pub record ElsewhereSame (p : ℕ) (s s' : State) : Type 0 where
  pub same_module : s.module' ≡ s'.module'
  pub same_sizes : s.sizes ≡ s'.sizes
  pub same_slots : (q : ℕ) → ¬ (p ≡ q) → slots_at s q ≡ slots_at s' q

module _ (s : State) (rest l : List ℕ) (e : l ≡ image s ++ rest) where
  pub places_word : get_or l 0 0 ≡ s.sizes.places
  unfolding image laid head
  places_word = ap (λ (x : List ℕ). get_or x 0 0) e

  pub entries_word : get_or l 1 0 ≡ s.sizes.entries
  unfolding image laid head
  entries_word = ap (λ (x : List ℕ). get_or x 1 0) e

  pub words_word : get_or l 2 0 ≡ s.sizes.words
  unfolding image laid head
  words_word = ap (λ (x : List ℕ). get_or x 2 0) e

  pub module_length_word : get_or l 3 0 ≡ length s.module'
  unfolding image laid head
  module_length_word = ap (λ (x : List ℕ). get_or x 3 0) e

  -- the module, as it is lent
  pub module_lent : (count : ℕ) → count ≡ length s.module' → length s.module' ≤ longest_module → mid_of head_words count l ≡ s.module'
  unfolding read_module image
  module_lent count c h = ap (λ (n : ℕ). mid_of head_words n l) (c ∙ sym module_length_word) ∙ ap read_module e ∙ read_module_lem s.module' s.sizes (slots_at s) rest h

  -- its room, zeros and all
  pub module_room : mid_of head_words longest_module l ≡ fill_to longest_module 0 s.module'
  unfolding image laid head
  module_room =
      let filled = fill_to longest_module 0 s.module' in
      let blocks' = joined (map (block_at s.sizes (slots_at s)) (up_to s.sizes.places)) in
      ap (mid_of head_words longest_module) e
      ∙ ap (take longest_module) (append_assoc filled blocks' rest)
      ∙ take_at filled (blocks' ++ rest) longest_module (length_fill longest_module 0 s.module')

  pub long_enough : needed s.sizes ≤ length l
  long_enough = omega (arith, ap length e, length-append (image s) rest, length_image s)

  blocks : List (List ℕ)
  blocks = map (block_at s.sizes (slots_at s)) (up_to s.sizes.places)

  split : l ≡ head s.module' s.sizes ++ (joined blocks ++ rest)
  unfolding image laid blocks
  split = e ∙ append_assoc (head s.module' s.sizes) (joined blocks) rest

  module _ (p at count : ℕ) (in_places : p < s.sizes.places) (a : at ≡ blocks_from + p * block_size s.sizes) (c : count ≡ block_size s.sizes) where
    pub block_within : at + count ≤ length l
    block_within = omega (arith, long_enough, block_in p s.sizes.places (block_size s.sizes) in_places)

    -- the block of place p, as it is lent
    pub place_lent : mid_of at count l ≡ block s.sizes (slots_at s p)
    unfolding blocks
    place_lent =
        let size = block_size s.sizes in
        (λ i. mid_of (a i) count (split i))
        ∙ mid_behind (p * size) count blocks_from (head s.module' s.sizes) (joined blocks ++ rest) (length_head s.module' s.sizes)
        ∙ block_lent (p * size) count size p blocks rest refl c (each_block s.sizes (slots_at s) (up_to s.sizes.places)) (omega (arith, length_numbered (block_at s.sizes (slots_at s)) s.sizes.places))
        ∙ numbered_at (block_at s.sizes (slots_at s)) s.sizes.places p in_places

    -- and as it comes back
    pub place_back : (s' : State) (b : List ℕ) → ElsewhereSame p s s' → b ≡ block s.sizes (slots_at s' p) → put_mid at count l b ≡ image s' ++ rest
    unfolding image laid blocks
    place_back s' b same eb =
        let size = block_size s.sizes in
        let places = s.sizes.places in
        let changed : ℕ → List ℕ = λ q. block s.sizes (slots_at s' q) in
        (λ i. put_mid (a i) count (split i) (eb i))
        ∙ put_behind (p * size) count blocks_from (head s.module' s.sizes) (joined blocks ++ rest) (changed p) (length_head s.module' s.sizes)
        ∙ ap (λ (x : List ℕ). head s.module' s.sizes ++ x)
        (block_back (p * size) count size p blocks rest (changed p) refl c (each_block s.sizes (slots_at s) (up_to places)) (omega (arith, length_numbered (block_at s.sizes (slots_at s)) places))
        ∙ ap (λ (bs : List (List ℕ)). joined bs ++ rest) (numbered_set (block_at s.sizes (slots_at s)) changed places p (λ q n. ap (block s.sizes) (same.same_slots q n))))
        ∙ sym (append_assoc (head s.module' s.sizes) (joined (map changed (up_to places))) rest)
        ∙ (λ i. laid (same.same_module i) (same.same_sizes i) (slots_at s') ++ rest)

    -- slot i of place p, read in the store
    pub slot_read : (i from : ℕ) → i < slot_count s.sizes → from ≡ at + i * slot_size s.sizes → mid_of from (slot_size s.sizes) l ≡ slot_words s.sizes (get_or (slots_at s p) i free_slot)
    slot_read i from h f =
        let size = slot_size s.sizes in
        ap (λ (n : ℕ). mid_of n size l) f
        ∙ sym (mid_mid at count (i * size) size l (omega (arith, block_in i (slot_count s.sizes) size h)))
        ∙ ap (mid_of (i * size) size) place_lent
        ∙ slot_lent s.sizes (slots_at s p) i (i * size) size h refl refl

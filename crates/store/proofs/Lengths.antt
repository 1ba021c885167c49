-- How long slots, blocks and images are.
use Prim.Native.Nat.{ℕ, ◌+◌, ◌*◌, ◌≤◌}
use mathlib.Core.Path.{◌≡◌, ◌∙◌, ap}
use mathlib.Core.List.{List, map}
use native.Mathlib.Nat.{mul-le-mul}
use native.Mathlib.Omega.{arith}
use lib.ListN.{length, length-append, length-map}
use Rattle.lists.specs.Lists.{up_to, joined}
use Rattle.lists.specs.Fill.{fill_to}
use Rattle.lists.proofs.All.{all_any, all_map}
use Rattle.lists.proofs.Fill.{length_fill}
use Rattle.lists.proofs.Blocks.{Each, length_joined, length_numbered}
use Rattle.term.specs.Module.{longest_module}
use Rattle.rules.specs.State.{Sizes, State}
use Rattle.rules.specs.Bench.{bench_sizes, bench_store}
use Rattle.store.specs.Layout.{blocks_from, names_room, slot_size, slot_count, block_size, needed, Slot, free_slot, slot_words, slots_at, block, head, laid, image}
use Rattle.store.specs.ImageLaws.{most_needed}

pub length_slot : (sizes : Sizes) (x : Slot) → length (slot_words sizes x) ≡ slot_size sizes
unfolding slot_words
length_slot sizes x =
    let control = fill_to sizes.words 0 x.control in
    let names = fill_to (names_room sizes) 0 x.names in
    omega (arith, length-append control names, length_fill sizes.words 0 x.control, length_fill (names_room sizes) 0 x.names)

-- the slots of a block, and the blocks of an image, are of equal length
pub each_slot : (sizes : Sizes) (xs : List Slot) → Each (slot_size sizes) (map (slot_words sizes) xs)
each_slot sizes xs = all_map (λ b. length b ≡ slot_size sizes) (slot_words sizes) xs (all_any (length_slot sizes) xs)

pub slots_in : (sizes : Sizes) (xs : List Slot) → length (map (slot_words sizes) (fill_to (slot_count sizes) free_slot xs)) ≡ slot_count sizes
slots_in sizes xs = length-map (fill_to (slot_count sizes) free_slot xs) (slot_words sizes) ∙ length_fill (slot_count sizes) free_slot xs

pub length_block : (sizes : Sizes) (xs : List Slot) → length (block sizes xs) ≡ block_size sizes
unfolding block
length_block sizes xs =
    length_joined (slot_size sizes) (map (slot_words sizes) (fill_to (slot_count sizes) free_slot xs)) (each_slot sizes (fill_to (slot_count sizes) free_slot xs))
    ∙ ap (λ (n : ℕ). n * slot_size sizes) (slots_in sizes xs)

-- the block of each place
abbrev pub block_at : Sizes → (ℕ → List Slot) → ℕ → List ℕ
block_at sizes places p = block sizes (places p)

pub each_block : (sizes : Sizes) (places : ℕ → List Slot) (ps : List ℕ) → Each (block_size sizes) (map (block_at sizes places) ps)
each_block sizes places ps = all_map (λ b. length b ≡ block_size sizes) (block_at sizes places) ps (all_any (λ p. length_block sizes (places p)) ps)

pub length_head : (module' : List ℕ) (sizes : Sizes) → length (head module' sizes) ≡ blocks_from
unfolding head
length_head module' sizes = omega (arith, length_fill longest_module 0 module')

pub length_laid : (module' : List ℕ) (sizes : Sizes) (places : ℕ → List Slot) → length (laid module' sizes places) ≡ needed sizes
unfolding laid
length_laid module' sizes places =
    let blocks = map (block_at sizes places) (up_to sizes.places) in
    length-append (head module' sizes) (joined blocks)
    ∙ ap (λ (n : ℕ). n + length (joined blocks)) (length_head module' sizes)
    ∙ ap
    (λ (n : ℕ). blocks_from + n)
    (length_joined (block_size sizes) blocks (each_block sizes places (up_to sizes.places))
    ∙ ap (λ (n : ℕ). n * block_size sizes) (length_numbered (block_at sizes places) sizes.places))

pub length_image : (s : State) → length (image s) ≡ needed s.sizes
unfolding image
length_image s = length_laid s.module' s.sizes (slots_at s)

pub needed_most : (sizes : Sizes) → needed sizes ≤ most_needed sizes
unfolding most_needed
needed_most sizes =
    let room = sizes.words + sizes.places * sizes.entries in
    let one : block_size sizes ≤ (sizes.entries + 2) * (room + 8) =
    mul-le-mul {n₁ = slot_count sizes} {m₁ = slot_size sizes} {n₂ = sizes.entries + 2} {m₂ = room + 8} (omega arith) (omega arith) in
    let all : sizes.places * block_size sizes ≤ sizes.places * ((sizes.entries + 2) * (room + 8)) =
    mul-le-mul {n₁ = sizes.places} {m₁ = block_size sizes} {n₂ = sizes.places} {m₂ = (sizes.entries + 2) * (room + 8)} (omega arith) one in
    omega arith

pub bench_fits : needed bench_sizes ≤ bench_store
bench_fits = omega arith

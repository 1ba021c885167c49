-- Sizes in range: how far the numbers of the layout go.
use Prim.Native.Nat.{ℕ, suc, ◌+◌, ◌*◌, ◌≤◌, ◌<◌}
use mathlib.Core.Path.{◌≡◌, ap}
use mathlib.Core.Bool.{true, false}
use mathlib.Core.Logic.{inl, inr}
use native.Mathlib.Nat.{mul-le-mul}
use native.Mathlib.Omega.{arith}
use Rattle.lists.proofs.Tests.{leb_of, and_of, true_or_false}
use Rattle.lists.proofs.Blocks.{block_in}
use Rattle.rules.specs.State.{Sizes}
use Rattle.rules.specs.Load.{good_sizes}
use Rattle.store.specs.Layout.{blocks_from, names_room, slot_size, slot_count, block_size, needed, most_places, most_entries, most_names, longest_slot, longest_block, longest_store}
use Rattle.store.proofs.SoundStates.{SizesIn, sizes_in_lem}

-- ---- the test of sizes

pub in_good : (sizes : Sizes) → SizesIn sizes → good_sizes sizes ≡ true
unfolding good_sizes
in_good sizes x =
    and_of (and_of (and_of (and_of (and_of (leb_of 1 sizes.places x.places_low) (leb_of sizes.places 16 x.places_high))
    (leb_of 1 sizes.entries x.entries_low)) (leb_of sizes.entries 64 x.entries_high))
    (leb_of 16 sizes.words x.words_low)) (leb_of sizes.words 255 x.words_high)

pub not_good : (sizes : Sizes) → ¬ SizesIn sizes → good_sizes sizes ≡ false
not_good sizes n = elim (true_or_false (good_sizes sizes)) [ inl t ↦ absurd (n (sizes_in_lem sizes t)) | inr f ↦ f ]

-- ---- how far the numbers go

module _ (sizes : Sizes) (good : good_sizes sizes ≡ true) where
  pub names_most : names_room sizes ≤ most_names
  names_most = let x = sizes_in_lem sizes good in mul-le-mul {n₁ = sizes.places} {m₁ = sizes.entries} {n₂ = most_places} {m₂ = most_entries} x.places_high x.entries_high

  pub slot_most : slot_size sizes ≤ longest_slot
  slot_most = omega (arith, names_most, (sizes_in_lem sizes good).words_high)

  pub block_most : block_size sizes ≤ longest_block
  block_most = let x = sizes_in_lem sizes good in mul-le-mul {n₁ = slot_count sizes} {m₁ = slot_size sizes} {n₂ = suc most_entries} {m₂ = longest_slot} (omega (arith, x.entries_high)) slot_most

  pub blocks_most : sizes.places * block_size sizes ≤ most_places * longest_block
  blocks_most = let x = sizes_in_lem sizes good in mul-le-mul {n₁ = sizes.places} {m₁ = block_size sizes} {n₂ = most_places} {m₂ = longest_block} x.places_high block_most

  -- a slot lies within the needed words
  pub slot_within : (p i : ℕ) → p < sizes.places → i ≤ sizes.entries → blocks_from + p * block_size sizes + i * slot_size sizes + slot_size sizes ≤ needed sizes
  slot_within p i hp hi = omega (arith, block_in p sizes.places (block_size sizes) hp, block_in i (slot_count sizes) (slot_size sizes) (omega arith))

  -- so its start is a small number, from the lengths that the code has
  pub start_most : (p i block slot : ℕ) → block ≡ block_size sizes → slot ≡ slot_size sizes → p < sizes.places → i ≤ sizes.entries → blocks_from + p * block + i * slot ≤ longest_store
  start_most p i block slot eb es hp hi = omega (arith, ap (λ (n : ℕ). p * n) eb, ap (λ (n : ℕ). i * n) es, slot_within p i hp hi, blocks_most)

-- Words that keep the layout, whatever they say.
use Rattle.std.specs.Prelude.{ℕ, zero, suc, ◌+◌, ◌*◌, ◌≤◌, ◌<◌, ◌≡◌, true, false, List, eqb, length, take, drop, get_or}
use borrow.Rule.Slice.PartMut.{mid_of}
use Rattle.lists.specs.Lists.{All}
use Rattle.term.specs.Module.{longest_module}
use Rattle.rules.specs.State.{Sizes}
use Rattle.rules.specs.Load.{good_sizes}
use Rattle.store.specs.Layout.{head_words, blocks_from, slot_head, names_room, slot_size, slot_count, block_size, needed, kind_free}
use Rattle.store.specs.Sizing.{sizes_of}

abbrev pub IsZero : ℕ → Type 0
IsZero w = w ≡ 0

-- a slot whose unused words are zeros
pub record WellSlot (sizes : Sizes) (w : List ℕ) : Type 0 where
  pub long : length w ≡ slot_size sizes
  pub zero_3 : get_or w 3 0 ≡ 0
  pub zero_5 : get_or w 5 0 ≡ 0
  pub zero_6 : get_or w 6 0 ≡ 0
  pub zero_7 : get_or w 7 0 ≡ 0
  pub control_fits : get_or w 1 0 ≤ sizes.words
  pub control_zeros : All IsZero (drop (get_or w 1 0) (mid_of slot_head sizes.words w))
  pub names_fit : get_or w 4 0 ≤ names_room sizes
  pub names_zeros : All IsZero (drop (get_or w 4 0) (mid_of (slot_head + sizes.words) (names_room sizes) w))

-- so many slots: those before the first free one keep the layout, and from it on there are zeros
unfoldable pub WellSlots : Sizes → ℕ → List ℕ → Type 0
WellSlots sizes zero l = Unit {0}
WellSlots sizes (suc n) l = elim (eqb (get_or l 0 0) kind_free) [
  | true ↦ All IsZero l
  | false ↦ WellSlot sizes (take (slot_size sizes) l) × WellSlots sizes n (drop (slot_size sizes) l)
]

-- the sizes that a store says
abbrev pub sizes_in : List ℕ → Sizes
sizes_in l = sizes_of (get_or l 0 0) (get_or l 1 0) (get_or l 2 0)

-- a store that is long enough for its own sizes and keeps the layout
pub record WellFormedStore (l : List ℕ) : Type 0 where
  pub sizes_pass : good_sizes (sizes_in l) ≡ true
  pub long : needed (sizes_in l) ≤ length l
  pub module_fits : get_or l 3 0 ≤ longest_module
  pub module_zeros : All IsZero (drop (get_or l 3 0) (mid_of head_words longest_module l))
  pub blocks : (p : ℕ) → p < get_or l 0 0 → WellSlots (sizes_in l) (slot_count (sizes_in l)) (mid_of (blocks_from + p * block_size (sizes_in l)) (block_size (sizes_in l)) l)

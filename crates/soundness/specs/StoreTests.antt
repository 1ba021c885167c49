-- What the whole soundness test answers, put together from its parts.
use Rattle.std.specs.Prelude.{ℕ, ◌*◌, ◌≡◌, Bool, true, false, List, get_or, replicate}
use Rattle.std.proofs.Math.Option.{none, some}
use borrow.Rule.Slice.PartMut.{mid_of}
use Rattle.lists.specs.Lists.{All, chop}
use Rattle.lists.specs.Decides.{Decides}
use Rattle.term.specs.Module.{check_module}
use Rattle.term.specs.Control.{module_arities}
use Rattle.store.specs.Layout.{blocks_from, slot_size, block_size, most_places, most_names, kind_free}
use Rattle.store.specs.Formed.{sizes_in}
use Rattle.slots.specs.SoundTests.{kind_word, Block, ControlBlock, every_of, place_passes, live_from, Births}
use Rattle.soundness.specs.MessageTests.{arrive_from, place_flows}
use Rattle.slots.specs.SendTests.{SendReady, entry_slots, note_from}

-- a block with its names and controls; where the first slot is free, all are
pub record WholeBlock (words size count : ℕ) (b : List ℕ) : Type 0 where
  pub controls : ControlBlock size count b
  pub names : Block words size count b
  pub free : kind_word b ≡ kind_free → All (λ w. kind_word w ≡ kind_free) (entry_slots size count b)

-- which places are live
abbrev pub live_in : List (List ℕ) → List Bool
live_in blocks = live_from 0 blocks (replicate most_places false)

-- each send is to a live place, each message that came was sent to its place and came once, and what recs left are prefixes
pub record MessagesPass (module' : List ℕ) (live : List Bool) (places entries words size : ℕ) (blocks : List (List ℕ)) : Type 0 where
  pub targets : List ℕ
  pub noted : note_from module' live size entries 0 blocks (replicate most_names 0) ≡ some targets
  pub left : List ℕ
  pub came : arrive_from words size entries places entries 0 blocks targets ≡ some left
  pub flow : every_of (place_flows words size entries) blocks ≡ true

pub record MessagesTested (live : List Bool) (places entries words size : ℕ) (blocks : List (List ℕ)) (r : Bool) : Type 0 where
  pub decided : (module' : List ℕ) → All (λ b. All (SendReady module') (entry_slots size entries b)) blocks → Decides (MessagesPass module' live places entries words size blocks) r

-- and slots have their shapes, place 0 is live, births
pub record SlotsPass (module' : List ℕ) (places entries words size : ℕ) (blocks : List (List ℕ)) : Type 0 where
  pub shapes_pass : every_of (place_passes size entries places (module_arities module')) blocks ≡ true
  pub first_live : get_or (live_in blocks) 0 false ≡ true
  pub births_pass : Births size entries (live_in blocks) blocks
  pub messages_pass : MessagesPass module' (live_in blocks) places entries words size blocks

pub record SlotsTested (places entries words size : ℕ) (arities : List ℕ) (blocks : List (List ℕ)) (r : Bool) : Type 0 where
  pub decided : (module' : List ℕ) → check_module module' ≡ none → arities ≡ module_arities module' → Decides (SlotsPass module' places entries words size blocks) r

-- the blocks of a store, and their test
abbrev pub blocks_in : List ℕ → List (List ℕ)
blocks_in l = chop (get_or l 0 0) (block_size (sizes_in l)) (mid_of blocks_from (get_or l 0 0 * block_size (sizes_in l)) l)

abbrev pub StoreTested : List ℕ → List ℕ → Bool → Type 0
StoreTested l arities r = SlotsTested (get_or l 0 0) (get_or l 1 0) (get_or l 2 0) (slot_size (sizes_in l)) arities (blocks_in l) r

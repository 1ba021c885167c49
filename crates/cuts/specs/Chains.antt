-- An index of links by the event that they are on. A chain of links goes from each slot; a number past all links ends it.
use Rattle.std.specs.Prelude.{ℕ, ◌+◌, ◌*◌, ◌%◌, ◌≤◌, ◌<◌, ◌≡◌, List, length, get_or, replicate}
use Rattle.cuts.specs.Bounds.{most_entries, line_count, most_links}
use Rattle.cuts.specs.declared.link.Link.{Link}
use Rattle.cuts.specs.Links.{from_line, from_index, on_line, on_index}

-- a line has as many slots as a place can have entries
abbrev pub slots_each : ℕ
slots_each = most_entries

abbrev pub slot_count : ℕ
slot_count = line_count * slots_each

-- the slot of event i of line x
abbrev pub slot_of : (x i : ℕ) → ℕ
slot_of x i = slots_each * x + i % slots_each

-- the slots, and what follows each link
abbrev pub index_room : ℕ
index_room = slot_count + most_links

abbrev pub no_chains : List ℕ
no_chains = replicate index_room most_links

-- link k stands in the chain from link j on
pub data Chained (index : List ℕ) : (j k : ℕ) → Type 0 where
  here : {k : ℕ} → Chained index k k
  there : {j k : ℕ} → j < get_or index (slot_count + j) 0 → Chained index (get_or index (slot_count + j) 0) k → Chained index j k

-- the links from a number on stand in the chains of their slots
pub record Indexed (links : List Link) (from : ℕ) (index : List ℕ) : Type 0 where
  pub long : length index ≡ index_room
  pub small : (j : ℕ) → get_or index j 0 ≤ most_links
  pub heads : (s : ℕ) → s < slot_count → from ≤ get_or index s 0
  pub nexts : (k : ℕ) → from ≤ k → k < length links → k < get_or index (slot_count + k) 0
  pub all : (k : ℕ) → from ≤ k → k < length links → Chained index (get_or index (slot_of (on_line links k) (on_index links k)) 0) k

-- the links of events that stay do
pub record Waiting (links : List Link) (level index : List ℕ) : Type 0 where
  pub long : length index ≡ index_room
  pub small : (j : ℕ) → get_or index j 0 ≤ most_links
  pub nexts : (k : ℕ) → k < length links → k < get_or index (slot_count + k) 0
  pub all : (k : ℕ) → k < length links → from_index links k < get_or level (from_line links k) 0 → Chained index (get_or index (slot_of (on_line links k) (on_index links k)) 0) k

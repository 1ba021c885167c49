-- What a cut and a search for undos answer, said of the numbers that they are given.
use Rattle.std.specs.Prelude.{ℕ, ◌-◌, ◌≤◌, ◌<◌, ◌≡◌, true, List, length, get_or, set, Option, Some, None}
use Rattle.rules.specs.Answers.{held}
use Rattle.rules.specs.State.{State}
use Rattle.rules.specs.Sound.{Sound}
use Rattle.rules.specs.Depends.{Series, level, happened, event}
use Rattle.rules.specs.Rollback.{cut_to, cut_before, RolledBack, refused, rolled, undo_to}
use Rattle.cuts.specs.Bounds.{line_count}
use Rattle.cuts.specs.declared.link.Link.{Link}
use Rattle.cuts.specs.Links.{cut_in, Levels, from_line, from_index, on_line, on_index, Tied, Links}

-- ---- the cut

-- link k is torn: its event stays, and what it depends on goes
pub record Tears (links : List Link) (cut : List ℕ) (k : ℕ) : Type 0 where
  pub stays : from_index links k < get_or cut (from_line links k) 0
  pub goes : get_or cut (on_line links k) 0 ≤ on_index links k

-- link k's event goes
abbrev pub Passed : (links : List Link) (cut : List ℕ) (k : ℕ) → Type 0
Passed links cut k = get_or cut (from_line links k) 0 ≤ from_index links k

-- the cut lowered to the event of link k
unfoldable pub lower_to : (links : List Link) (k : ℕ) (cut : List ℕ) → List ℕ
lower_to links k cut = set cut (from_line links k) (from_index links k)

-- where it is torn
pub data LowersAt (links : List Link) (k : ℕ) (before : List ℕ) : List ℕ → Type 0 where
  kept : ¬ Tears links before k → LowersAt links k before before
  lowers : Tears links before k → LowersAt links k before (lower_to links k before)

-- lowered again and again, each time to the event of a link that is torn
pub data Lowers (links : List Link) (from : List ℕ) : List ℕ → Type 0 where
  stay : Lowers links from from
  down : {cut : List ℕ} {k : ℕ} → Lowers links from cut → k < length links → Tears links cut k → Lowers links from (lower_to links k cut)

-- until all that is linked to event i of line y goes
pub record LowersOn (links : List Link) (y i : ℕ) (before after : List ℕ) : Type 0 where
  pub lowers : Lowers links before after
  pub passed : (k : ℕ) → k < length links → on_line links k ≡ y → on_index links k ≡ i → Passed links after k

-- until no link is torn
pub record Settled (links : List Link) (from to : List ℕ) : Type 0 where
  pub lowers : Lowers links from to
  pub whole : (k : ℕ) → k < length links → ¬ Tears links to k

-- the first line that stands above the cut
abbrev pub FindsAbove : (cut level : List ℕ) → Option ℕ → Type 0
FindsAbove cut level None = (x : ℕ) → x < line_count → get_or level x 0 ≤ get_or cut x 0
FindsAbove cut level (Some x) = (x < line_count) × (get_or cut x 0 < get_or level x 0)

-- from the cut just before an event, the cut that takes it off with all events that depend on it
unfoldable pub Settles : (links : List Link) (from to : List ℕ) → Type 0
Settles links from to = (s : State) (x : Series) (i : ℕ) → Sound s → Tied s links (length links) → happened s (event x i) ≡ true → cut_in from ≡ cut_to x i (level s) → cut_in to ≡ cut_before s (event x i)

-- ---- the search

-- an event that stays depends on event i of line x
pub record Blocks (links : List Link) (x i : ℕ) (level : List ℕ) (k : ℕ) : Type 0 where
  pub line : on_line links k ≡ x
  pub index : on_index links k ≡ i
  pub stays : from_index links k < get_or level (from_line links k) 0

pub record Blocked (links : List Link) (x i : ℕ) (level : List ℕ) : Type 0 where
  pub place : ℕ
  pub below : place < length links
  pub blocks : Blocks links x i level place

-- a line above the cut whose newest event no event that stays depends on
pub record Free (links : List Link) (cut level : List ℕ) (x : ℕ) : Type 0 where
  pub line : x < line_count
  pub above : get_or cut x 0 < get_or level x 0
  pub free : ¬ Blocked links x (get_or level x 0 - 1) level

abbrev pub FindsFree : (links : List Link) (cut level : List ℕ) → Option ℕ → Type 0
FindsFree links cut level None = (x : ℕ) → x < line_count → ¬ Free links cut level x
FindsFree links cut level (Some x) = Free links cut level x

-- the numbers of a state, and the cut of one of its events
pub record Ready (s : State) (links : List Link) (cut levels : List ℕ) : Type 0 where
  pub few : ℕ
  pub linked : Links s links few
  pub levels_are : Levels s levels
  pub line : Series
  pub index : ℕ
  pub happens : happened s (event line index) ≡ true
  pub cut_is : cut_in cut ≡ cut_before s (event line index)

-- a rollback as a search foretells it: the count, or that it is held
pub data Foretells : RolledBack → Option ℕ → Type 0 where
  foretells_done : (n : ℕ) (end : State) → Foretells (rolled n end) (Some n)
  foretells_held : Foretells (refused held) None

unfoldable pub Seeks : (links : List Link) (cut levels : List ℕ) → Option ℕ → Type 0
Seeks links cut levels r = (s : State) → Sound s → Ready s links cut levels → Foretells (undo_to s (cut_in cut)) r

-- The numbers that a rollback goes by: how many events each line has, and which event depends at once on which.
use Rattle.std.specs.Prelude.{ℕ, suc, ◌+◌, ◌*◌, ◌≤◌, ◌<◌, ◌≡◌, List, [], ◌∷◌, length, get_or}
use Rattle.std.proofs.Math.Option.{some}
use Rattle.rules.specs.State.{Message, letter, taking, as_send, as_rec, as_spawn, Entry, State}
use Rattle.rules.specs.Flight.{sends}
use Rattle.rules.specs.Depends.{Series, entries_of, deliveries_to, level}
use Rattle.rules.specs.Standing.{Stands, Arrives, seen}
use Rattle.rules.specs.Rollback.{Cut}
use Rattle.cuts.specs.Bounds.{line_count, most_links, most_events}
use Rattle.cuts.specs.declared.link.Link.{Link}

-- line 2p is the entries of place p, line 2p + 1 the deliveries to it
abbrev pub line_number : Series → ℕ
line_number (entries_of p) = 2 * p
line_number (deliveries_to q) = 2 * q + 1

-- a number for each line: how many of its events stay
unfoldable pub cut_in : List ℕ → Cut
cut_in l x = get_or l (line_number x) 0

abbrev pub sum_of : List ℕ → ℕ
sum_of [] = 0
sum_of (n ∷ l) = n + sum_of l

-- how many events each line has
pub record Levels (s : State) (l : List ℕ) : Type 0 where
  pub long : length l ≡ line_count
  pub most : sum_of l ≤ most_events
  pub are : (x : Series) → cut_in l x ≡ level s x

-- 01's list of what depends at once on what, in numbers: event a of the first line on event b of the second
pub data Ties (s : State) : Series → ℕ → Series → ℕ → Type 0 where
  -- a rec on the newest of the arrivals that it has seen
  of_rec : {p i j : ℕ} {e : Entry} {g : List Entry} {a d : List Message} {m : Message} → Stands s p i e g → as_rec e.kind ≡ some (taking a m d) → seen a m d g ≡ suc j
      → Ties s (entries_of p) i (deliveries_to p) j
  -- the first arrival after a rec on the rec
  of_since : {p i : ℕ} {e : Entry} {g : List Entry} {a d : List Message} {m : Message} → Stands s p i e g → as_rec e.kind ≡ some (taking a m d)
      → Ties s (deliveries_to p) (seen a m d g) (entries_of p) i
  -- an arrival on the send of its message
  of_send : {q i j : ℕ} {v : List ℕ} {e : Entry} {g : List Entry} {n : Message} → Arrives s q j n → Stands s n.sender i e g → as_send e.kind ≡ some (letter q v) → sends g ≡ n.count
      → Ties s (deliveries_to q) j (entries_of n.sender) i
  -- a process's first entry, and its first arrival, on its spawn
  of_child : {p q i : ℕ} {e : Entry} {g : List Entry} → Stands s p i e g → as_spawn e.kind ≡ some q → Ties s (entries_of q) 0 (entries_of p) i
  of_mail : {p q i : ℕ} {e : Entry} {g : List Entry} → Stands s p i e g → as_spawn e.kind ≡ some q → Ties s (deliveries_to q) 0 (entries_of p) i

-- what undoing asks besides: a send stands in the way of its target's spawn, which is not undone while something is in flight to the child
pub data Aims (s : State) : Series → ℕ → Series → ℕ → Type 0 where
  of_aim : {u j p i q : ℕ} {v : List ℕ} {f e : Entry} {h g : List Entry} → Stands s u j f h → as_send f.kind ≡ some (letter q v) → Stands s p i e g → as_spawn e.kind ≡ some q
      → Aims s (entries_of u) j (entries_of p) i

-- past the links of a list stand links of zeros
abbrev pub no_link : Link
no_link = record { event = record { line = 0; index = 0 }; on = record { line = 0; index = 0 } }

-- link k is of an event, by its line and its number there, and on the event that it depends on
abbrev pub from_line : (links : List Link) (k : ℕ) → ℕ
from_line links k = (get_or links k no_link).event.line

abbrev pub from_index : (links : List Link) (k : ℕ) → ℕ
from_index links k = (get_or links k no_link).event.index

abbrev pub on_line : (links : List Link) (k : ℕ) → ℕ
on_line links k = (get_or links k no_link).on.line

abbrev pub on_index : (links : List Link) (k : ℕ) → ℕ
on_index links k = (get_or links k no_link).on.index

-- event a of line x depends on event b of line y
pub record LinkAt (links : List Link) (k : ℕ) (x : Series) (a : ℕ) (y : Series) (b : ℕ) : Type 0 where
  pub from_line_lem : from_line links k ≡ line_number x
  pub from_index_lem : from_index links k ≡ a
  pub on_line_lem : on_line links k ≡ line_number y
  pub on_index_lem : on_index links k ≡ b

-- one of the first so many links
pub record Linked (links : List Link) (count : ℕ) (x : Series) (a : ℕ) (y : Series) (b : ℕ) : Type 0 where
  pub place : ℕ
  pub below : place < count
  pub is : LinkAt links place x a y b

-- link number k is one of these
pub record Says (Of : Series → ℕ → Series → ℕ → Type 0) (links : List Link) (k : ℕ) : Type 0 where
  pub from : Series
  pub first : ℕ
  pub on : Series
  pub second : ℕ
  pub is : LinkAt links k from first on second
  pub holds : Of from first on second

-- the first so many links are 01's list
pub record Tied (s : State) (links : List Link) (few : ℕ) : Type 0 where
  pub each : (k : ℕ) → k < few → Says (Ties s) links k
  pub all : (x : Series) (a : ℕ) (y : Series) (b : ℕ) → Ties s x a y b → Linked links few x a y b

-- and with those that follow, all that undoing asks
pub record Links (s : State) (links : List Link) (few : ℕ) : Type 0 where
  pub most : length links ≤ most_links
  pub fewer : few ≤ length links
  pub tied : Tied s links few
  pub each : (k : ℕ) → few ≤ k → k < length links → Says (Aims s) links k
  pub all : (x : Series) (a : ℕ) (y : Series) (b : ℕ) → Aims s x a y b → Linked links (length links) x a y b

-- ---- what the code needs of the links themselves

-- link k lies in the list, and its lines are lines of places
pub record LinkFits (links : List Link) (k : ℕ) : Type 0 where
  pub low : k < length links
  pub from_line_lem : from_line links k < line_count
  pub on_line_lem : on_line links k < line_count

pub record Room (links : List Link) : Type 0 where
  pub most : length links ≤ most_links
  pub each : (k : ℕ) → k < length links → LinkFits links k

-- what the links are on has happened
pub record OnEvents (links : List Link) (levels : List ℕ) : Type 0 where
  pub each : (k : ℕ) → k < length links → on_index links k < get_or levels (on_line links k) 0

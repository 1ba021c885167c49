-- What the functions answer that read the numbers of a state from its store.
use Rattle.std.specs.Prelude.{ℕ, suc, ◌+◌, ◌≤◌, ◌<◌, ◌≡◌, List, length, get_or, Option, None, Some}
use Rattle.std.proofs.Math.Option.{some}
use Rattle.rules.specs.State.{Message, letter, taking, as_send, as_rec, as_spawn, Entry, State, history_at, entry_at}
use Rattle.rules.specs.Flight.{sends, left_or}
use Rattle.rules.specs.Sound.{SpawnedBy}
use Rattle.rules.specs.Depends.{Series, entries_of, deliveries_to, level}
use Rattle.rules.specs.Standing.{Stands, Arrives, seen}
use Rattle.store.specs.Layout.{kind_number, name_word}
use Rattle.reading.specs.Reads.{OfState, OfEntry}
use Rattle.cuts.specs.declared.events.Event.{Event}
use Rattle.cuts.specs.Bounds.{most_come}
use Rattle.cuts.specs.declared.link.Link.{Link}
use Rattle.cuts.specs.Links.{LinkAt, Says, line_number, no_link}

-- entry i of p is of that kind
abbrev pub IsKind : (p i kind : ℕ) → State → Type 0
IsKind p i kind = OfEntry p i (λ e. kind_number e.kind ≡ kind)

-- something is so of entry i of p, which is a rec, with the older entries
unfoldable pub OfRec : (p i : ℕ) → (List Message → Message → List Message → List Entry → Type 0) → State → Type 0
OfRec p i P s = (e : Entry) (g : List Entry) (a : List Message) (m : Message) (d : List Message) → Stands s p i e g → as_rec e.kind ≡ some (taking a m d) → P a m d g

-- ---- arrivals

-- where a name stands among names, from a place on
abbrev pub PlaceFrom : (names : List ℕ) (from name : ℕ) → Option ℕ → Type 0
PlaceFrom names from name None = (j : ℕ) → from ≤ j → j < length names → ¬ (get_or names j 0 ≡ name)
PlaceFrom names from name (Some j) = (from ≤ j) × (j < length names) × (get_or names j 0 ≡ name)

-- which arrival at q has that name
unfoldable pub ArrivalIs : (q name : ℕ) → Option ℕ → State → Type 0
ArrivalIs q name None s = (j : ℕ) (n : Message) → Arrives s q j n → ¬ (name_word n ≡ name)
ArrivalIs q name (Some j) s = (n : Message) × Arrives s q j n × (name_word n ≡ name)

-- how many messages have come to p, which are not too many
pub record ComeCount (p n : ℕ) (s : State) : Type 0 where
  pub count : n ≡ level s (deliveries_to p)
  pub few : n ≤ most_come

-- the queue that the newest of entry i and the older ones left, by its length; of the older ones alone it was `before`
unfoldable pub LeftAt : (q i before n : ℕ) → State → Type 0
LeftAt q i before n s = (e : Entry) → entry_at (history_at s q) i ≡ some e → (l : List Message) → length l ≡ before → n ≡ length (left_or (as_rec e.kind) l)

-- ---- the spawn of a place

unfoldable pub SpawnIn : (p q : ℕ) → Option ℕ → State → Type 0
SpawnIn p q None s = (i : ℕ) → ¬ SpawnedBy s q p i
SpawnIn p q (Some i) s = SpawnedBy s q p i

unfoldable pub BornBy : (q : ℕ) → Option Event → State → Type 0
BornBy q None s = (p i : ℕ) → ¬ SpawnedBy s q p i
BornBy q (Some e) s = (p : ℕ) × (e.line ≡ line_number (entries_of p)) × SpawnedBy s q p e.index

-- ---- links

-- 01's list by the entry that it is about: entry i of p
pub data TiesAt (p i : ℕ) (s : State) : Series → ℕ → Series → ℕ → Type 0 where
  rec_at : {j : ℕ} {e : Entry} {g : List Entry} {a d : List Message} {m : Message} → Stands s p i e g → as_rec e.kind ≡ some (taking a m d) → seen a m d g ≡ suc j
      → TiesAt p i s (entries_of p) i (deliveries_to p) j
  since_at : {e : Entry} {g : List Entry} {a d : List Message} {m : Message} → Stands s p i e g → as_rec e.kind ≡ some (taking a m d) → TiesAt p i s (deliveries_to p) (seen a m d g) (entries_of p) i
  send_at : {q j : ℕ} {v : List ℕ} {e : Entry} {g : List Entry} {n : Message} → Arrives s q j n → Stands s p i e g → as_send e.kind ≡ some (letter q v) → n.sender ≡ p → sends g ≡ n.count
      → TiesAt p i s (deliveries_to q) j (entries_of p) i
  child_at : {q : ℕ} {e : Entry} {g : List Entry} → Stands s p i e g → as_spawn e.kind ≡ some q → TiesAt p i s (entries_of q) 0 (entries_of p) i
  mail_at : {q : ℕ} {e : Entry} {g : List Entry} → Stands s p i e g → as_spawn e.kind ≡ some q → TiesAt p i s (deliveries_to q) 0 (entries_of p) i

-- and what undoing asks besides, by the send
pub data AimsAt (u j : ℕ) (s : State) : Series → ℕ → Series → ℕ → Type 0 where
  aim_at : {p i q : ℕ} {v : List ℕ} {f e : Entry} {h g : List Entry} → Stands s u j f h → as_send f.kind ≡ some (letter q v) → Stands s p i e g → as_spawn e.kind ≡ some q
      → AimsAt u j s (entries_of u) j (entries_of p) i

-- such links by the entry that they are about
abbrev pub Links4 : Type 1
Links4 = Series → ℕ → Series → ℕ → Type 0

abbrev pub ByEntry : Type 1
ByEntry = ℕ → ℕ → State → Links4

-- what the entries of p below i have, all entries of p, all entries of places below p, all entries
unfoldable pub Below : ByEntry → (p i : ℕ) → State → Links4
Below F p i s x a y b = (j : ℕ) × (j < i) × F p j s x a y b

unfoldable pub AtPlace : ByEntry → (p : ℕ) → State → Links4
AtPlace F p s x a y b = (j : ℕ) × F p j s x a y b

unfoldable pub BelowPlace : ByEntry → (p : ℕ) → State → Links4
BelowPlace F p s x a y b = (q : ℕ) × (q < p) × AtPlace F q s x a y b

unfoldable pub AtAll : ByEntry → State → Links4
AtAll F s x a y b = (p : ℕ) × AtPlace F p s x a y b

-- the links from one number to another are just these
pub record LinkedIn (links : List Link) (from to : ℕ) (x : Series) (a : ℕ) (y : Series) (b : ℕ) : Type 0 where
  pub place : ℕ
  pub over : from ≤ place
  pub below : place < to
  pub is : LinkAt links place x a y b

pub record Lists (Of : Series → ℕ → Series → ℕ → Type 0) (links : List Link) (from to : ℕ) : Type 0 where
  pub each : (k : ℕ) → from ≤ k → k < to → Says Of links k
  pub all : (x : Series) (a : ℕ) (y : Series) (b : ℕ) → Of x a y b → LinkedIn links from to x a y b

-- links are put behind those that there are
pub record Adds (store : List ℕ) (Of : State → Series → ℕ → Series → ℕ → Type 0) (before after : List Link) (most : ℕ) : Type 0 where
  pub same : (j : ℕ) → j < length before → get_or after j no_link ≡ get_or before j no_link
  pub low : length before ≤ length after
  pub high : length after ≤ length before + most
  pub lists : OfState store (λ s. Lists (Of s) after (length before) (length after))

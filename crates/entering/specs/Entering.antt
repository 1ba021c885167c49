-- An entry more, as words and as states.
use Rattle.std.specs.Prelude.{ℕ, ◌+◌, ◌-◌, ◌≤◌, ◌<◌, ◌≡◌, true, false, List, ◌∷◌, ◌++◌, length, get_or}
use Rattle.std.proofs.Math.Option.{none, some}
use borrow.Rule.Slice.PartMut.{mid_of}
use Rattle.rules.specs.State.{Message, Kind, rec, spawn, as_rec, Process, State, history_at, in_pool}
use Rattle.rules.specs.Load.{new_process}
use Rattle.rules.specs.Commands.{nothing, own_queue, other, turn, entry_with, apply}
use Rattle.store.specs.Layout.{kind_rec, slot_head, kind_number, number_in}
use Rattle.reading.specs.Reads.{control_at}
use Rattle.writing.specs.Slots.{controlled, without, within, copied, ControlRoom, NamesRoom, TwoSlots}

-- ---- words

-- an entry made: the present without its queue is copied, and the next control comes
unfoldable pub grown_words : (from end to words kind number : ℕ) (next : List ℕ) → List ℕ → List ℕ
grown_words from end to words kind number next l = within from (end - from) (controlled words next) (copied from to (slot_head + words) kind number 0 l)

-- a rec made: the present is copied, the name at a place goes, and the next control comes
unfoldable pub kept_words : (from end to place : ℕ) → List ℕ → List ℕ
kept_words from end to place l = copied from to (end - from) kind_rec place (get_or l (from + 4) 0) l

unfoldable pub took_words : (from end to words place : ℕ) (next : List ℕ) → List ℕ → List ℕ
took_words from end to words place next l = within from (end - from) (λ w. controlled words next (without words place w)) (kept_words from end to place l)

-- ---- room for them

-- the names of a slot, one of them at this place, and a control that comes
pub record InRoom (words place : ℕ) (control w : List ℕ) : Type 0 where
  pub names : NamesRoom words w
  pub one : place < get_or w 4 0
  pub control_room : ControlRoom words control w

pub record GrowRoom (from end to words : ℕ) (next l : List ℕ) : Type 0 where
  pub slots : TwoSlots from end to words l
  pub short : length next ≤ words

pub record TakeRoom (from end to words place : ℕ) (next l : List ℕ) : Type 0 where
  pub slots : TwoSlots from end to words l
  pub short : length next ≤ words
  pub names : NamesRoom words (mid_of from (end - from) (kept_words from end to place l))
  pub one : place < get_or (mid_of from (end - from) (kept_words from end to place l)) 4 0

-- ---- states

-- p with one entry more and the next control
unfoldable pub grown : State → ℕ → Kind → List ℕ → Process
grown s p kind next = record { control = next; history = entry_with kind (control_at s p) ∷ history_at s p }

-- an entry that is neither a rec nor a spawn
pub record Enters (p kind number : ℕ) (next : List ℕ) (s s' : State) : Type 0 where
  pub what : Kind
  pub of_kind : kind_number what ≡ kind
  pub of_number : number_in what ≡ number
  pub no_queue : as_rec what ≡ none
  pub after : s' ≡ apply (turn p (grown s p what next) nothing) s

-- a rec of the message at a place of the queue
pub record Takes (p place : ℕ) (next : List ℕ) (s s' : State) : Type 0 where
  pub older : List Message
  pub message : Message
  pub newer : List Message
  pub queue : s.queues p ≡ older ++ (message ∷ newer)
  pub at : length older ≡ place
  pub after : s' ≡ apply (turn p (grown s p (rec older message newer) next) (own_queue (older ++ newer))) s

-- a spawn into place f
unfoldable pub Spawns : (p f : ℕ) (next first : List ℕ) (s s' : State) → Type 0
Spawns p f next first s s' = s' ≡ apply (turn p (grown s p (spawn f) next) (other f (some (new_process first)))) s

-- ---- what has to hold before

-- a process with room for one entry more, and a control that fits
pub record CanGrow (p : ℕ) (next : List ℕ) (s : State) : Type 0 where
  pub lives : in_pool s p ≡ true
  pub has_room : length (history_at s p) < s.sizes.entries
  pub next_fits : length next ≤ s.sizes.words

pub record CanSpawn (f : ℕ) (first : List ℕ) (s : State) : Type 0 where
  pub is_place : f < s.sizes.places
  pub is_free : in_pool s f ≡ false
  pub first_fits : length first ≤ s.sizes.words

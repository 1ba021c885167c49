-- What is read of a store, said of the state that it holds.
use Rattle.std.specs.Prelude.{Bool, ◌&&◌, eqb, ℕ, ◌<◌, ◌-◌, ◌≡◌, true, List, [], ◌++◌, length, drop, Option, None, Some}
use Rattle.std.proofs.Math.Option.{Option as Maybe, none, some}
use Rattle.rules.specs.State.{Letter, letter, as_send, Entry, Process, State, history_at, entry_at, in_pool}
use Rattle.rules.specs.Flight.{sent}
use Rattle.rules.specs.Sound.{Sound}
use Rattle.store.specs.Layout.{image, kind_number, number_in, kind_seq, kind_send, kind_rec, kind_spawn, kind_self, kind_check}
use Rattle.kinds.specs.declared.Kind.{Kind}
use Rattle.kinds.specs.declared.Kind.TheVariants.{Seq, Send, Rec, Spawn, Own, Check}

-- the words begin with the image of this sound state
pub record Holds (l : List ℕ) (s : State) (rest : List ℕ) : Type 0 where
  pub sound : Sound s
  pub words : l ≡ image s ++ rest

-- something is so of the state that the words hold: they hold one at most
unfoldable pub OfState : List ℕ → (State → Type 0) → Type 0
OfState l P = (s : State) (rest : List ℕ) → Holds l s rest → P s

-- the control at a place, which is empty where no process is
unfoldable pub control_of : Maybe Process → List ℕ
control_of none = []
control_of (some process) = process.control

unfoldable pub control_at : State → ℕ → List ℕ
control_at s p = control_of (s.processes p)

-- a place that there is, a place in the pool, and an entry that there is
abbrev pub IsPlace : ℕ → State → Type 0
IsPlace p s = p < s.sizes.places

abbrev pub Lives : ℕ → State → Type 0
Lives p s = in_pool s p ≡ true

abbrev pub IsEntry : (p i : ℕ) → State → Type 0
IsEntry p i s = i < length (history_at s p)

-- something is so of entry i of p, counted from 0 and the oldest
unfoldable pub OfEntry : (p i : ℕ) → (Entry → Type 0) → State → Type 0
OfEntry p i P s = (e : Entry) → entry_at (history_at s p) i ≡ some e → P e

-- and of what it sent
unfoldable pub OfSend : (p i : ℕ) → (ℕ → List ℕ → Type 0) → State → Type 0
OfSend p i P s = (e : Entry) (target : ℕ) (value : List ℕ) → entry_at (history_at s p) i ≡ some e → as_send e.kind ≡ some (letter target value) → P target value

-- entry i of p is a send
pub record IsSend (p i : ℕ) (s : State) : Type 0 where
  pub entry : Entry
  pub target : ℕ
  pub value : List ℕ
  pub stands : entry_at (history_at s p) i ≡ some entry
  pub is_send : as_send entry.kind ≡ some (letter target value)

-- entry i of p is its send of that count
pub record SendAt (p k i : ℕ) (s : State) : Type 0 where
  pub entry : Entry
  pub target : ℕ
  pub value : List ℕ
  pub stands : entry_at (history_at s p) i ≡ some entry
  pub is_send : as_send entry.kind ≡ some (letter target value)
  pub is_kth : sent (history_at s p) k ≡ some (letter target value)

-- the number that the layout has for a kind
abbrev pub number_of : Kind → ℕ
number_of Seq = kind_seq
number_of Send = kind_send
number_of Rec = kind_rec
number_of Spawn = kind_spawn
number_of Own = kind_self
number_of Check = kind_check

abbrev pub is_kind : Kind → Entry → Bool
is_kind kind e = eqb (kind_number e.kind) (number_of kind)

-- an entry is of a kind and has that number
abbrev pub is_numbered : Kind → (number : ℕ) → Entry → Bool
is_numbered kind number e = is_kind kind e && eqb (number_in e.kind) number

-- the oldest i entries of a history
unfoldable pub oldest : ℕ → List Entry → List Entry
oldest i h = drop (length h - i) h

-- where the k-th send of a history stands
unfoldable pub SendFound : List Entry → ℕ → Option ℕ → Type 0
SendFound h k None = sent h k ≡ none
SendFound h k (Some i) = (e : Entry) × (l : Letter) × (entry_at h i ≡ some e) × (as_send e.kind ≡ some l) × (sent h k ≡ some l)

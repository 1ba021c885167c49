-- Sound states: a field for each clause of 01's paragraph, which the comments quote.
use Rattle.std.specs.Prelude.{ℕ, ◌≤◌, ◌≡◌, Bool, true, false, not, ◌&&◌, List, [], ◌∷◌, ◌++◌, length}
use Rattle.std.proofs.Math.Option.{none, some}
use Rattle.lists.specs.Lists.{any, All}
use Rattle.term.specs.Module.{check_module}
use Rattle.term.specs.Control.{good_control, module_arities}
use Rattle.machine.specs.Work.{to_send, work}
use Rattle.rules.specs.State.{Message, letter, taking, as_send, as_rec, as_spawn, as_check, Entry, Process, State, history_at, entry_at, in_pool, is_named}
use Rattle.rules.specs.Flight.{sent, taken}
use Rattle.rules.specs.Load.{good_sizes}

-- a control of at most W words that passes the control check
pub record SoundControl (s : State) (control : List ℕ) : Type 0 where
  pub good : good_control s.sizes.places (module_arities s.module') control ≡ true
  pub fits : length control ≤ s.sizes.words

-- the control is about to send the value to the target
pub record AboutToSend (s : State) (control : List ℕ) (target : ℕ) (value : List ℕ) : Type 0 where
  pub next : List ℕ
  pub sends : work s.module' control ≡ to_send target value next

-- entry i of p is the spawn of q
pub record SpawnedBy (s : State) (q p i : ℕ) : Type 0 where
  pub entry : Entry
  pub stands : entry_at (history_at s p) i ≡ some entry
  pub spawns : as_spawn entry.kind ≡ some q

-- no two messages of a list have one name
unfoldable pub distinct : List Message → Bool
distinct [] = true
distinct (m ∷ ms) = not (any (is_named m.sender m.count) ms) && distinct ms

-- m is the message of a send to t
unfoldable pub SentTo : State → ℕ → Message → Type 0
SentTo s t m = sent (history_at s m.sender) m.count ≡ some (letter t m.value)

-- the first queue is a prefix of the second
pub record Prefix (front queue : List Message) : Type 0 where
  pub others : List Message
  pub whole : queue ≡ front ++ others

-- the recs of a history, newest first, and the queue that comes after them
unfoldable pub Flows : List Entry → List Message → Type 0
Flows [] queue = Unit {0}
Flows (e ∷ older) queue = elim (as_rec e.kind) [
  | none ↦ Flows older queue
  | some (taking ahead m behind) ↦ Prefix (ahead ++ behind) queue × Flows older (ahead ++ (m ∷ behind))
]

pub record Sound (s : State) : Type 0 where
  -- "module and sizes pass load's tests"
  pub sizes_pass : good_sizes s.sizes ≡ true
  pub module_passes : check_module s.module' ≡ none
  -- "the pool (place 0 always)", of P places; only a process has a queue
  pub place_0 : in_pool s 0 ≡ true
  pub pool_ends : (p : ℕ) → s.sizes.places ≤ p → in_pool s p ≡ false
  pub no_queue_elsewhere : (p : ℕ) → in_pool s p ≡ false → s.queues p ≡ []
  -- "a history of at most H entries"
  pub history_fits : (p : ℕ) → length (history_at s p) ≤ s.sizes.entries
  -- "a control of at most W words"; "controls, those in entries too, are closed, well shaped, keep the module's binding rules, may hold
  -- pids outside patterns (and any values in guards), and name functions rightly"
  pub controls : (p : ℕ) (process : Process) → s.processes p ≡ some process → SoundControl s process.control
  pub controls_before : (p i : ℕ) (e : Entry) → entry_at (history_at s p) i ≡ some e → SoundControl s e.before
  -- "check numbers are 0..255"
  pub check_numbers : (p i number : ℕ) (e : Entry) → entry_at (history_at s p) i ≡ some e → as_check e.kind ≡ some number → number ≤ 255
  -- "a send entry's target and value are those its control before is about to send"
  pub sends_said : (p i target : ℕ) (value : List ℕ) (e : Entry) → entry_at (history_at s p) i ≡ some e → as_send e.kind ≡ some (letter target value) → AboutToSend s e.before target value
  -- "a rec's message stands in its queue before, and what it left is that queue without it": the form of a rec entry
  -- "each pool place but 0 is the child of exactly one spawn entry, place 0 of none, children are in the pool"
  pub born : (q : ℕ) → in_pool s q ≡ true → ¬ (q ≡ 0) → (p : ℕ) × (i : ℕ) × SpawnedBy s q p i
  pub born_once : (q p i p' i' : ℕ) → SpawnedBy s q p i → SpawnedBy s q p' i' → (p ≡ p') × (i ≡ i')
  pub place_0_unborn : (p i : ℕ) → ¬ SpawnedBy s 0 p i
  pub children_in_pool : (q p i : ℕ) → SpawnedBy s q p i → in_pool s q ≡ true
  -- "each send entry's target is in the pool, and its message stands exactly once in flight, the target's queue and the messages the
  -- target's recs took, taken together": in flight it is where it stands in neither of the others, and in those it stands once at most
  pub targets_in_pool : (p k target : ℕ) (value : List ℕ) → sent (history_at s p) k ≡ some (letter target value) → in_pool s target ≡ true
  pub once : (t : ℕ) → distinct (s.queues t ++ taken (history_at s t)) ≡ true
  -- "nothing else is a message"
  pub nothing_else : (t : ℕ) → All (SentTo s t) (s.queues t ++ taken (history_at s t))
  -- "the queue left by each rec is a prefix of the queue before the next rec, or of the current one"
  pub prefixes : (p : ℕ) → Flows (history_at s p) (s.queues p)

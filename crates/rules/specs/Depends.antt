-- What depends on what. 01: "Events are entries and deliveries."
use Rattle.std.specs.Prelude.{ℕ, ◌≡◌, ◌⊎◌, Bool, true, false, not, ◌&&◌, ◌||◌, List, [], ◌∷◌, ◌++◌, eqb, ltb, length}
use Rattle.std.proofs.Math.Option.{Option, none, some}
use Rattle.std.proofs.Math.ListN.{get_elem?}
use Rattle.lists.specs.Lists.{any, keep}
use Rattle.rules.specs.State.{Message, Taking, taking, as_send, as_rec, as_spawn, Entry, State, history_at, entry_at, is_named}
use Rattle.rules.specs.Flight.{sends, taken}

-- Arrivals. "Arrivals at a process are ordered by the first queue that shows them, then by place in it."

unfoldable pub queue_before : Option Taking → List Message
queue_before none = []
queue_before (some (taking ahead m behind)) = ahead ++ (m ∷ behind)

-- the queues that the recs of a history show, oldest first, and then one more
unfoldable pub queues_shown : List Entry → List Message → List (List Message)
queues_shown [] queue = queue ∷ []
queues_shown (e ∷ older) queue = elim (as_rec e.kind) [ none ↦ queues_shown older queue | some t ↦ queues_shown older (queue_before (some t)) ++ (queue ∷ []) ]

unfoldable pub is_among : List Message → Message → Bool
is_among ms m = any (is_named m.sender m.count) ms

-- what has arrived, then what each further queue shows first
unfoldable pub shown_in : List Message → List (List Message) → List Message
shown_in come [] = come
shown_in come (queue ∷ queues) = shown_in (come ++ keep (λ m. not (is_among come m)) queue) queues

unfoldable pub arrivals : State → ℕ → List Message
arrivals s q = shown_in [] (queues_shown (history_at s q) (s.queues q))

-- Events. A process has two series of events, its entries and the deliveries to it, each counted from 0 and the oldest.

pub data Series : Type 0 where
  entries_of : (p : ℕ) → Series
  deliveries_to : (q : ℕ) → Series

pub data Event : Type 0 where
  event : Series → ℕ → Event

-- how many events of a series have happened
unfoldable pub level : State → Series → ℕ
level s (entries_of p) = length (history_at s p)
level s (deliveries_to q) = length (arrivals s q)

unfoldable pub happened : State → Event → Bool
happened s (event x i) = ltb i (level s x)

-- "An event depends at once on: .."

-- entry j of p is the spawn of q
unfoldable pub is_spawn_of : (q : ℕ) → Option Entry → Bool
is_spawn_of q none = false
is_spawn_of q (some e) = elim (as_spawn e.kind) [ none ↦ false | some child ↦ eqb child q ]

-- message m stands in the queue before of an entry, which is a rec
unfoldable pub in_queue_before : Option Message → Option Entry → Bool
in_queue_before none e = false
in_queue_before (some m) none = false
in_queue_before (some m) (some e) = is_among (queue_before (as_rec e.kind)) m

-- the entries older than entry j of a history
unfoldable pub older_than : ℕ → List Entry → List Entry
older_than j [] = []
older_than j (e ∷ older) = elim (eqb (length older) j) [ true ↦ older | false ↦ older_than j older ]

-- a rec made before message m arrived: "its queue before lacks the message and no older rec took it"
unfoldable pub lacks : Message → Option Taking → List Entry → Bool
lacks m none older = false
lacks m (some t) older = not (is_among (queue_before (some t)) m) && not (is_among (taken older) m)

unfoldable pub made_before : Option Message → Option Entry → List Entry → Bool
made_before none e older = false
made_before (some m) none older = false
made_before (some m) (some e) older = lacks m (as_rec e.kind) older

-- an entry of p, with the older ones, is the send of message m
unfoldable pub is_send_of : Option Message → ℕ → Option Entry → List Entry → Bool
is_send_of none p e older = false
is_send_of (some m) p none older = false
is_send_of (some m) p (some e) older = elim (as_send e.kind) [ none ↦ false | some l ↦ is_named p (sends older) m ]

-- the first event is listed as depending at once on the second
unfoldable pub listed : State → Event → Event → Bool
listed s (event (entries_of p) i) (event (entries_of q) j) =
    -- "older entries of its own process if it is an entry"
    (eqb p q && ltb j i)
    -- "the spawn of the process it happens at"
    || is_spawn_of p (entry_at (history_at s q) j)
listed s (event (entries_of p) i) (event (deliveries_to q) j) =
    -- "deliveries in its queue before, if a rec"
    eqb p q && in_queue_before (get_elem? (arrivals s q) j) (entry_at (history_at s p) i)
listed s (event (deliveries_to q) i) (event (entries_of p) j) =
    -- "a rec of that process made before the message arrived, if a delivery"
    (eqb p q && made_before (get_elem? (arrivals s q) i) (entry_at (history_at s p) j) (older_than j (history_at s p)))
    -- "the send of the message it delivers"
    || is_send_of (get_elem? (arrivals s q) i) p (entry_at (history_at s p) j) (older_than j (history_at s p))
    -- "the spawn of the process it happens at"
    || is_spawn_of q (entry_at (history_at s p) j)
listed s (event (deliveries_to q) i) (event (deliveries_to r) j) =
    -- "earlier deliveries to the process if it is a delivery"
    eqb q r && ltb j i

-- e depends at once on d, and both have happened
unfoldable pub depends_at_once : State → (e d : Event) → Bool
depends_at_once s e d = happened s e && happened s d && listed s e d

-- "Depends on is the chain of these": e depends on d
pub data DependsOn (s : State) : (e d : Event) → Type 0 where
  at_once : {e d : Event} → depends_at_once s e d ≡ true → DependsOn s e d
  chain : {e f d : Event} → depends_at_once s e f ≡ true → DependsOn s f d → DependsOn s e d

-- d with all events that depend on it: e is among them
unfoldable pub WithDependents : State → (d e : Event) → Type 0
WithDependents s d e = (d ≡ e) ⊎ DependsOn s e d

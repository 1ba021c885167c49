-- The rules of the paper (document 000, figures 10 and 11) as a relation: what a single step needs of a state, and the state after. `run`
-- accepts exactly these (demands/specs/Demands, `AreTheRules`).
use Rattle.std.specs.Prelude.{ℕ, ◌<◌, ◌≤◌, ◌≡◌, true, false, List, [], ◌∷◌, ◌++◌, length}
use Rattle.std.proofs.Math.Option.{Option, none, some}
use Rattle.machine.specs.Work.{Work, to_seq, to_send, to_receive, to_spawn, to_self, to_check, work}
use Rattle.rules.specs.State.{Message, letter, Kind, seq, send, rec, spawn, self, check, Entry, Process, State, history_at, in_pool}
use Rattle.rules.specs.Flight.{sends, sent, left, flies}
use Rattle.rules.specs.Load.{new_process}
use Rattle.rules.specs.Commands.{Command, step, spawn_into, deliver, back, undeliver, Deed, makes, undoes, delivers, undelivers, set_process, set_queue, entry_with}
use Rattle.rules.specs.Receives.{TakesOldest}

abbrev pub process : List ℕ → List Entry → Process
process control history = record { control = control; history = history }

abbrev pub message : ℕ → ℕ → List ℕ → Message
message sender count value = record { sender = sender; count = count; value = value }

-- message s.k, which holds the value, is in flight to t
pub record InFlight (st : State) (s k t : ℕ) (value : List ℕ) : Type 0 where
  pub out : sent (history_at st s) k ≡ some (letter t value)
  pub up : flies st s k t ≡ true

-- p's control and history, and what that control is about to do
pub record About (s : State) (p : ℕ) (control : List ℕ) (history : List Entry) (doing : Work) : Type 0 where
  pub stands : s.processes p ≡ some (process control history)
  pub is : work s.module' control ≡ doing

-- the state with p's control and history so
abbrev pub with : State → ℕ → List ℕ → List Entry → State
with s p control history = set_process p (some (process control history)) s

-- p makes an entry of a kind and has the next control, and the state after it (figure 10)
pub data Makes (s : State) (p : ℕ) (control : List ℕ) (history : List Entry) : Kind → (next : List ℕ) → (after : State) → Type 0 where
  by_seq : {next : List ℕ} → About s p control history (to_seq next)
      → Makes s p control history seq next (with s p next (entry_with seq control ∷ history))
  by_check : {number : ℕ} {next : List ℕ} → About s p control history (to_check number next)
      → Makes s p control history (check number) next (with s p next (entry_with (check number) control ∷ history))
  by_self : {next : ℕ → List ℕ} → About s p control history (to_self next)
      → Makes s p control history self (next p) (with s p (next p) (entry_with self control ∷ history))
  by_send : {target : ℕ} {value next : List ℕ} → About s p control history (to_send target value next) → in_pool s target ≡ true
      → Makes s p control history (send target value) next (with s p next (entry_with (send target value) control ∷ history))
  by_receive : {takes : List ℕ → Option (List ℕ)} {m : Message} {ahead behind : List Message} {next : List ℕ}
      → About s p control history (to_receive takes) → TakesOldest takes (s.queues p) ahead m behind next
      → Makes s p control history (rec ahead m behind) next (set_queue p (ahead ++ behind) (with s p next (entry_with (rec ahead m behind) control ∷ history)))
  by_spawn : {child : List ℕ} {next : ℕ → List ℕ} {f : ℕ} → About s p control history (to_spawn child next) → f < s.sizes.places → in_pool s f ≡ false
      → Makes s p control history (spawn f) (next f) (set_process f (some (new_process child)) (with s p (next f) (entry_with (spawn f) control ∷ history)))

-- p's newest entry, with its control before and the older entries, is undone, and the state after that (figure 11)
pub data Undoes (s : State) (p : ℕ) (before : List ℕ) (older : List Entry) : Kind → (after : State) → Type 0 where
  undo_seq : Undoes s p before older seq (with s p before older)
  undo_check : {number : ℕ} → Undoes s p before older (check number) (with s p before older)
  undo_self : Undoes s p before older self (with s p before older)
  undo_send : {target : ℕ} {value : List ℕ} → InFlight s p (sends older) target value → Undoes s p before older (send target value) (with s p before older)
  undo_receive : {m : Message} {ahead behind : List Message} → s.queues p ≡ ahead ++ behind
      → Undoes s p before older (rec ahead m behind) (set_queue p (ahead ++ (m ∷ behind)) (with s p before older))
  undo_spawn : {q : ℕ} {first : List ℕ} → s.processes q ≡ some (new_process first) → s.queues q ≡ []
      → ((sender k : ℕ) (value : List ℕ) → ¬ InFlight s sender k q value) → Undoes s p before older (spawn q) (set_process q none (with s p before older))

-- an accepted single step leads from a state to the state after it
pub data LeadsTo (s : State) : Deed → (after : State) → Type 0 where
  forward : {p : ℕ} {control next : List ℕ} {history : List Entry} {kind : Kind} {after : State} → Makes s p control history kind next after
      → length history < s.sizes.entries → length next ≤ s.sizes.words → LeadsTo s (makes p kind) after
  backward : {p : ℕ} {control before : List ℕ} {older : List Entry} {kind : Kind} {after : State}
      → s.processes p ≡ some (process control (entry_with kind before ∷ older)) → Undoes s p before older kind after → LeadsTo s (undoes p (sends older) kind) after
  -- Sched and its reverse
  sched : {sender k t : ℕ} {value : List ℕ} → InFlight s sender k t value
      → LeadsTo s (delivers sender k t) (set_queue t (s.queues t ++ (message sender k value ∷ [])) s)
  unsched : {t : ℕ} (m : Message) (queue : List Message) → in_pool s t ≡ true → s.queues t ≡ queue ++ (m ∷ [])
      → length (left (history_at s t)) < length (s.queues t) → LeadsTo s (undelivers t) (set_queue t queue s)

-- the command that does it
unfoldable pub making_of : ℕ → Kind → Command
making_of p seq = step p
making_of p (send target value) = step p
making_of p (rec ahead m behind) = step p
making_of p (spawn f) = spawn_into p f
making_of p self = step p
making_of p (check number) = step p

unfoldable pub command_of : Deed → Command
command_of (makes p kind) = making_of p kind
command_of (undoes p count kind) = back p
command_of (delivers sender k t) = deliver sender k
command_of (undelivers t) = undeliver t

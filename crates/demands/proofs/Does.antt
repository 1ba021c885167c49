-- The rules in the form that proofs use: what each deed needs of a state and what it writes (rules/specs/Rules says them with the state after;
-- proofs/Allowed ties the two).
use Prim.Native.Nat.{ℕ, ◌<◌, ◌≤◌}
use mathlib.Core.Path.{◌≡◌}
use mathlib.Core.Bool.{true, false}
use mathlib.Core.Option.{Option, none, some}
use mathlib.Core.List.{List, [], ◌∷◌, ◌++◌}
use lib.ListN.{length}
use Rattle.machine.specs.Work.{to_seq, to_send, to_receive, to_spawn, to_self, to_check, work}
use Rattle.rules.specs.State.{Message, Kind, seq, send, rec, spawn, self, check, Entry, State, history_at, in_pool}
use Rattle.rules.specs.Flight.{sends, left}
use Rattle.rules.specs.Load.{new_process}
use Rattle.rules.specs.Commands.{Deed, makes, undoes, delivers, undelivers, Beside, nothing, own_queue, other, Move, turn, post, picked, pick, entry_with}
use Rattle.rules.specs.Rules.{process, message, InFlight}

-- p with the control makes an entry of a kind and has the next control, and nobody else is concerned
pub data MakesAlone (s : State) (p : ℕ) (control : List ℕ) : Kind → List ℕ → Type 0 where
  by_seq : {next : List ℕ} → work s.module' control ≡ to_seq next → MakesAlone s p control seq next
  by_self : {next : ℕ → List ℕ} → work s.module' control ≡ to_self next → MakesAlone s p control self (next p)
  by_check : {number : ℕ} {next : List ℕ} → work s.module' control ≡ to_check number next → MakesAlone s p control (check number) next

-- p with the control makes an entry of a kind and has the next control, with what is written beside it
pub data Makes (s : State) (p : ℕ) (control : List ℕ) : Kind → List ℕ → Beside → Type 0 where
  alone : {kind : Kind} {next : List ℕ} → MakesAlone s p control kind next → Makes s p control kind next nothing
  by_send : {target : ℕ} {value next : List ℕ} → work s.module' control ≡ to_send target value next → in_pool s target ≡ true
      → Makes s p control (send target value) next nothing
  by_receive : {takes : List ℕ → Option (List ℕ)} {m : Message} {older newer : List Message} {next : List ℕ}
      → work s.module' control ≡ to_receive takes → pick takes (s.queues p) ≡ some (picked older m newer next)
      → Makes s p control (rec older m newer) next (own_queue (older ++ newer))
  by_spawn : {child : List ℕ} {next : ℕ → List ℕ} {f : ℕ} → work s.module' control ≡ to_spawn child next → f < s.sizes.places → in_pool s f ≡ false
      → Makes s p control (spawn f) (next f) (other f (some (new_process child)))

-- an entry of the kind concerns nobody else
pub data Alone : Kind → Type 0 where
  seq_alone : Alone seq
  self_alone : Alone self
  check_alone : {number : ℕ} → Alone (check number)

-- p's newest entry, of a kind and with so many sends before it, may be undone, with what is written beside it
pub data Undoes (s : State) (p count : ℕ) : Kind → Beside → Type 0 where
  undo_alone : {kind : Kind} → Alone kind → Undoes s p count kind nothing
  undo_send : {target : ℕ} {value : List ℕ} → InFlight s p count target value → Undoes s p count (send target value) nothing
  undo_receive : {m : Message} {older newer : List Message} → s.queues p ≡ older ++ newer
      → Undoes s p count (rec older m newer) (own_queue (older ++ (m ∷ newer)))
  undo_spawn : {q : ℕ} {first : List ℕ} → s.processes q ≡ some (new_process first) → s.queues q ≡ []
      → ((sender k : ℕ) (value : List ℕ) → ¬ InFlight s sender k q value) → Undoes s p count (spawn q) (other q none)

pub data Does (s : State) : Deed → Move → Type 0 where
  forward : {p : ℕ} {control next : List ℕ} {history : List Entry} {kind : Kind} {beside : Beside} → s.processes p ≡ some (process control history)
      → Makes s p control kind next beside → length history < s.sizes.entries → length next ≤ s.sizes.words
      → Does s (makes p kind) (turn p (process next (entry_with kind control ∷ history)) beside)
  backward : {p : ℕ} {control before : List ℕ} {older : List Entry} {kind : Kind} {beside : Beside}
      → s.processes p ≡ some (process control (entry_with kind before ∷ older)) → Undoes s p (sends older) kind beside
      → Does s (undoes p (sends older) kind) (turn p (process before older) beside)
  sched : {sender k t : ℕ} {value : List ℕ} {queue : List Message} → InFlight s sender k t value → s.queues t ≡ queue
      → Does s (delivers sender k t) (post t (queue ++ (message sender k value ∷ [])))
  unsched : {t : ℕ} (m : Message) {queue : List Message} → in_pool s t ≡ true → s.queues t ≡ queue ++ (m ∷ [])
      → length (left (history_at s t)) < length (queue ++ (m ∷ [])) → Does s (undelivers t) (post t queue)

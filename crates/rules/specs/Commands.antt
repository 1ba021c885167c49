-- The single steps, forward and back, with 01's answers in 01's order: 3, 4, 7, 5, 6, 8, 9, 10 forward; 11 for deliver; 3, 12, 13
-- undoing.
use Rattle.std.specs.Prelude.{ℕ, Bool, true, false, not, ◌&&◌, List, [], ◌∷◌, ◌++◌, leb, ltb, length}
use Rattle.std.proofs.Math.Option.{Option, none, some}
use Rattle.lists.specs.Lists.{but_last}
use Rattle.lists.specs.Tables.{put}
use Rattle.machine.specs.Work.{Work, to_seq, to_send, to_receive, to_spawn, to_self, to_check, work}
use Rattle.rules.specs.Answers.{no_process, finished, waiting, stuck, wrong_command, place_taken, too_large, history_full, no_message, nothing_to_undo, held}
use Rattle.rules.specs.State.{Message, Letter, letter, Kind, seq, send, rec, spawn, self, check, Entry, Process, State, history_at, in_pool, same_queue}
use Rattle.rules.specs.Flight.{sends, sent, left, flies, awaited}
use Rattle.rules.specs.Load.{new_process}

-- step p; spawn p f; deliver s k; back p; undeliver p
pub data Command : Type 0 where
  step : (p : ℕ) → Command
  spawn_into : (p f : ℕ) → Command
  deliver : (s k : ℕ) → Command
  back : (p : ℕ) → Command
  undeliver : (p : ℕ) → Command

-- what an accepted command does: p makes an entry; p's newest entry, with so many sends before it, is undone; message s.k comes to t; the
-- newest message of t's queue goes back
pub data Deed : Type 0 where
  makes : (p : ℕ) → Kind → Deed
  undoes : (p count : ℕ) → Kind → Deed
  delivers : (s k t : ℕ) → Deed
  undelivers : (t : ℕ) → Deed

-- what it writes: a process, and beside it nothing, the process's queue, or the process at another place; or a queue alone
pub data Beside : Type 0 where
  nothing : Beside
  own_queue : List Message → Beside
  other : (q : ℕ) → Option Process → Beside

pub data Move : Type 0 where
  turn : (p : ℕ) → Process → Beside → Move
  post : (t : ℕ) → List Message → Move

unfoldable pub set_process : ℕ → Option Process → State → State
set_process p process s = record { module' = s.module'; sizes = s.sizes; processes = put p process s.processes; queues = s.queues }

unfoldable pub set_queue : ℕ → List Message → State → State
set_queue p queue s = record { module' = s.module'; sizes = s.sizes; processes = s.processes; queues = put p queue s.queues }

unfoldable pub set_beside : ℕ → Beside → State → State
set_beside p nothing s = s
set_beside p (own_queue queue) s = set_queue p queue s
set_beside p (other q process) s = set_process q process s

-- the state after
unfoldable pub apply : Move → State → State
apply (turn p process beside) s = set_beside p beside (set_process p (some process) s)
apply (post t queue) s = set_queue t queue s

-- an answer's number, or what is done and written
pub data Plan : Type 0 where
  refuse : (number : ℕ) → Plan
  accept : Deed → Move → Plan

-- the number where the test fails
unfoldable pub need : Bool → ℕ → Plan → Plan
need true number plan = plan
need false number plan = refuse number

-- The oldest message that a receive takes: what stands ahead of it, the message, what stands behind it, the next control.
-- "Receive tries messages oldest first, for each the clauses in order."
pub data Picked : Type 0 where
  picked : (ahead : List Message) (m : Message) (behind : List Message) (next : List ℕ) → Picked

unfoldable pub or_later : Message → List Message → Option (List ℕ) → Option Picked → Option Picked
or_later m queue (some next) later = some (picked [] m queue next)
or_later m queue none none = none
or_later m queue none (some (picked ahead n behind next)) = some (picked (m ∷ ahead) n behind next)

unfoldable pub pick : (List ℕ → Option (List ℕ)) → List Message → Option Picked
pick takes [] = none
pick takes (m ∷ queue) = or_later m queue (takes m.value) (pick takes queue)

abbrev pub entry_with : Kind → List ℕ → Entry
entry_with kind before = record { kind = kind; before = before }

module _ (s : State) (p : ℕ) (process : Process) where
  -- p makes an entry: 9 where the next control exceeds W, 10 where H entries stand
  unfoldable pub making : Kind → List ℕ → Beside → Plan
  making kind next beside =
      need (leb (length next) s.sizes.words) too_large
      (need (ltb (length process.history) s.sizes.entries) history_full
      (accept (makes p kind) (turn p (record { control = next; history = entry_with kind process.control ∷ process.history }) beside)))

  -- 5 where nothing matches
  unfoldable pub receiving : Option Picked → Plan
  receiving none = refuse waiting
  receiving (some (picked ahead m behind next)) = making (rec ahead m behind) next (own_queue (ahead ++ behind))

  -- "step p makes one step that isn't a spawn"; "a send to .. a pid not in the pool is stuck"
  unfoldable pub stepping : Work → Plan
  stepping Work.finished = refuse finished
  stepping Work.stuck = refuse stuck
  stepping (to_seq next) = making seq next nothing
  stepping (to_send target value next) = need (in_pool s target) stuck (making (send target value) next nothing)
  stepping (to_receive takes) = receiving (pick takes (s.queues p))
  stepping (to_spawn child next) = refuse wrong_command
  stepping (to_self next) = making self (next p) nothing
  stepping (to_check number next) = making (check number) next nothing

  -- "spawn p f makes a spawn into place f"; 8 where "f is P or more, or in the pool". The child's control is no longer than p's.
  unfoldable pub spawning : ℕ → Work → Plan
  spawning f Work.finished = refuse finished
  spawning f Work.stuck = refuse wrong_command
  spawning f (to_seq next) = refuse wrong_command
  spawning f (to_send target value next) = refuse wrong_command
  spawning f (to_receive takes) = refuse wrong_command
  spawning f (to_spawn child next) =
      need (ltb f s.sizes.places) place_taken
      (need (not (in_pool s f)) place_taken
      (making (spawn f) (next f) (other f (some (new_process child)))))
  spawning f (to_self next) = refuse wrong_command
  spawning f (to_check number next) = refuse wrong_command

-- p's newest entry is undone: "its control returns"
unfoldable pub undone : ℕ → Entry → List Entry → Beside → Plan
undone p e older beside = accept (undoes p (sends older) e.kind) (turn p (record { control = e.before; history = older }) beside)

-- "A spawn needs its child's history and queue empty and nothing in flight to it"
unfoldable pub is_new : Option Process → Bool
is_new none = false
is_new (some process) = elim process.history [ [] ↦ true | e ∷ older ↦ false ]

unfoldable pub untouched : State → ℕ → Bool
untouched s q = is_new (s.processes q) && same_queue (s.queues q) [] && not (awaited s q)

-- what an entry needs to be undone, with the older entries: 13 where it fails. "A rec needs the queue to be just what it left, and gives
-- back the queue before. A send needs its message in flight."
unfoldable pub undoing : State → ℕ → Entry → List Entry → Kind → Plan
undoing s p e older seq = undone p e older nothing
undoing s p e older (send target value) = need (flies s p (sends older) target) held (undone p e older nothing)
undoing s p e older (rec ahead m behind) =
    need (same_queue (s.queues p) (ahead ++ behind)) held (undone p e older (own_queue (ahead ++ (m ∷ behind))))
undoing s p e older (spawn child) = need (untouched s child) held (undone p e older (other child none))
undoing s p e older self = undone p e older nothing
undoing s p e older (check number) = undone p e older nothing

-- 12 where the history is empty
unfoldable pub backing : State → ℕ → List Entry → Plan
backing s p [] = refuse nothing_to_undo
backing s p (e ∷ older) = undoing s p e older e.kind

-- "puts the newest queued message back in flight if the queue is longer than the newest rec left it"
unfoldable pub undelivering : State → ℕ → Process → List Message → Plan
undelivering s p process [] = refuse nothing_to_undo
undelivering s p process (m ∷ queue) =
    need (ltb (length (left process.history)) (length (m ∷ queue))) held (accept (undelivers p) (post p (but_last (m ∷ queue))))

-- "moves message s.k from flight to the end of its target's queue"; 11 where it isn't in flight
unfoldable pub delivering : State → (sender k : ℕ) → Option Letter → Plan
delivering s sender k none = refuse no_message
delivering s sender k (some (letter t value)) =
    need (flies s sender k t) no_message
    (accept (delivers sender k t) (post t (s.queues t ++ (record { sender = sender; count = k; value = value } ∷ []))))

-- 3 where the place is not in the pool
unfoldable pub at_process : Option Process → (Process → Plan) → Plan
at_process none plan = refuse no_process
at_process (some process) plan = plan process

unfoldable pub run : Command → State → Plan
run (step p) s = at_process (s.processes p) (λ process. stepping s p process (work s.module' process.control))
run (spawn_into p f) s = at_process (s.processes p) (λ process. spawning s p process f (work s.module' process.control))
run (deliver sender k) s = delivering s sender k (sent (history_at s sender) k)
run (back p) s = at_process (s.processes p) (λ process. backing s p process.history)
run (undeliver p) s = at_process (s.processes p) (λ process. undelivering s p process (s.queues p))

-- the state after a command, where it is accepted
unfoldable pub after_plan : Plan → State → Option State
after_plan (refuse number) s = none
after_plan (accept deed move) s = some (apply move s)

unfoldable pub run_state : Command → State → Option State
run_state c s = after_plan (run c s) s

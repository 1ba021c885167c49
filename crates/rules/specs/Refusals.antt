-- When a command is refused, and with which number: 01's table, a line a row, in its order. `run` refuses exactly so (demands/specs/Demands,
-- `AreTheRules`).
use Rattle.std.specs.Prelude.{ℕ, ◌<◌, ◌≤◌, ◌≡◌, ◌≢◌, true, false, List, [], ◌∷◌, length}
use Rattle.std.proofs.Math.Option.{Option, some}
use Rattle.machine.specs.Work.{Work, to_send, to_receive, to_spawn}
use Rattle.rules.specs.Answers.{no_process, finished, waiting, stuck, wrong_command, place_taken, too_large, history_full, no_message, nothing_to_undo, held}
use Rattle.rules.specs.State.{Kind, Entry, State, history_at, in_pool}
use Rattle.rules.specs.Flight.{left}
use Rattle.rules.specs.Commands.{Command, step, spawn_into, deliver, back, undeliver, entry_with}
use Rattle.rules.specs.Receives.{NoneTaken}
use Rattle.rules.specs.Rules.{process, InFlight, About, Makes, Undoes, making_of}

-- the command is for the process at p
pub data For (p : ℕ) : Command → Type 0 where
  for_step : For p (step p)
  for_spawn : {f : ℕ} → For p (spawn_into p f)
  for_back : For p (back p)
  for_undeliver : For p (undeliver p)

-- the command is a step or a spawn of p
pub data Goes (p : ℕ) : Command → Type 0 where
  goes_step : Goes p (step p)
  goes_spawn : {f : ℕ} → Goes p (spawn_into p f)

-- what is left to do is no spawn
unfoldable pub NoSpawn : Work → Type 0
NoSpawn doing = (child : List ℕ) (next : ℕ → List ℕ) → doing ≢ to_spawn child next

pub data Refused (s : State) : Command → ℕ → Type 0 where
  -- 3, "place not in the pool"
  not_in_pool : {p : ℕ} {c : Command} → For p c → in_pool s p ≡ false → Refused s c no_process
  -- 4, "the control is a value"
  is_finished : {p : ℕ} {control : List ℕ} {history : List Entry} {c : Command} → Goes p c → About s p control history Work.finished → Refused s c finished
  -- 7, "step at a spawn, or spawn elsewhere"
  step_at_spawn : {p : ℕ} {control child : List ℕ} {next : ℕ → List ℕ} {history : List Entry} → About s p control history (to_spawn child next) → Refused s (step p) wrong_command
  spawn_elsewhere : {p f : ℕ} {control : List ℕ} {history : List Entry} {doing : Work} → About s p control history doing
      → doing ≢ Work.finished → NoSpawn doing → Refused s (spawn_into p f) wrong_command
  -- 5, "receive, nothing matches"
  nothing_matches : {p : ℕ} {control : List ℕ} {history : List Entry} {takes : List ℕ → Option (List ℕ)} → About s p control history (to_receive takes)
      → NoneTaken takes (s.queues p) → Refused s (step p) waiting
  -- 6, "no rule applies"; "a send to .. a pid not in the pool is stuck"
  is_stuck : {p : ℕ} {control : List ℕ} {history : List Entry} → About s p control history Work.stuck → Refused s (step p) stuck
  target_missing : {p target : ℕ} {control value next : List ℕ} {history : List Entry} → About s p control history (to_send target value next)
      → in_pool s target ≡ false → Refused s (step p) stuck
  -- 8, "f is P or more, or in the pool"
  beyond_places : {p f : ℕ} {control child : List ℕ} {next : ℕ → List ℕ} {history : List Entry} → About s p control history (to_spawn child next)
      → s.sizes.places ≤ f → Refused s (spawn_into p f) place_taken
  place_in_pool : {p f : ℕ} {control child : List ℕ} {next : ℕ → List ℕ} {history : List Entry} → About s p control history (to_spawn child next)
      → f < s.sizes.places → in_pool s f ≡ true → Refused s (spawn_into p f) place_taken
  -- 9, "next control exceeds W"
  too_large_lem : {p : ℕ} {control next : List ℕ} {history : List Entry} {kind : Kind} {after : State} → Makes s p control history kind next after
      → s.sizes.words < length next → Refused s (making_of p kind) too_large
  -- 10, "H entries stand"
  history_full_lem : {p : ℕ} {control next : List ℕ} {history : List Entry} {kind : Kind} {after : State} → Makes s p control history kind next after
      → length next ≤ s.sizes.words → s.sizes.entries ≤ length history → Refused s (making_of p kind) history_full
  -- 11, "s.k isn't in flight"
  not_in_flight : {sender k : ℕ} → ((t : ℕ) (value : List ℕ) → ¬ InFlight s sender k t value) → Refused s (deliver sender k) no_message
  -- 12, "history (back) or queue (undeliver) empty"
  no_entry : {p : ℕ} {control : List ℕ} → s.processes p ≡ some (process control []) → Refused s (back p) nothing_to_undo
  no_message_queued : {p : ℕ} → in_pool s p ≡ true → s.queues p ≡ [] → Refused s (undeliver p) nothing_to_undo
  -- 13, "undo condition fails"
  entry_held : {p : ℕ} {control before : List ℕ} {older : List Entry} {kind : Kind} → s.processes p ≡ some (process control (entry_with kind before ∷ older))
      → ((after : State) → ¬ Undoes s p before older kind after) → Refused s (back p) held
  message_held : {p : ℕ} → in_pool s p ≡ true → s.queues p ≢ [] → length (s.queues p) ≤ length (left (history_at s p)) → Refused s (undeliver p) held

-- Demands 2 and 3, each under its sentence, and nothing else. Demand 1 is one of calls (calls/specs/Demand1); what else is shown of the rules
-- stands in Consequences and in RollbackDemands.
use Rattle.std.specs.Prelude.{ℕ, ◌≡◌, ◌↔◌, true, false, List}
use Rattle.std.proofs.Math.Option.{some}
use Rattle.causal.specs.Paths.{Turns}
use Rattle.causal.specs.Exec.{Step, run_all}
use Rattle.rules.specs.Answers.{done}
use Rattle.rules.specs.State.{Sizes, State, history_at}
use Rattle.rules.specs.Load.{loads, load}
use Rattle.rules.specs.Commands.{Command, Deed, Move, apply, refuse, accept, run, run_state}
use Rattle.rules.specs.Sound.{Sound}
use Rattle.rules.specs.Independent.{Independent}
use Rattle.rules.specs.Rules.{LeadsTo, command_of}
use Rattle.rules.specs.Refusals.{Refused}
use Rattle.rules.specs.Reverse.{reverse, is_forward}
use Rattle.rules.specs.Depends.{entries_of, Event, event, happened, WithDependents}
use Rattle.rules.specs.Rollback.{newest_check, Undos, Rollback, rolled_number, rolled_count, rolled_state, rollback}
use Rattle.demands.specs.Size.{HasSize}

-- a state reached from a load: accepted commands lead there
pub record Reachable (s : State) : Type 0 where
  pub module' : List ℕ
  pub sizes : Sizes
  pub root : State
  pub is_load : load module' sizes ≡ loads root
  pub commands : List Command
  pub lead : run_all run_state commands root ≡ some s

-- one sequence of commands turns into another: a chain of changes, in each of which two neighbours are exchanged ("when u is accepted before t
-- and the two are independent there") or a step is removed or inserted with its reverse, every sequence on the way accepted
abbrev pub TurnsInto : State → (ts us : List Command) → Type 0
TurnsInto s ts us = Turns (Step run_state) reverse Independent s ts us

pub record Demand2 : Type 0 where
  -- "Each step, forward or back, follows the published "A theory of reversibility for Erlang" in document 01's form, ..
  pub accepted_is_allowed : (s : State) (c : Command) (d : Deed) (w : Move) → Sound s → run c s ≡ accept d w → LeadsTo s d (apply w s) × (command_of d ≡ c)
  pub allowed_is_accepted : (s after : State) (d : Deed) → LeadsTo s d after → (w : Move) × (run (command_of d) s ≡ accept d w) × (apply w s ≡ after)
  -- .. and is refused exactly where 01 says.
  pub refused_is_listed : (s : State) (c : Command) (n : ℕ) → Sound s → (run c s ≡ refuse n) ↔ Refused s c n
  -- In a state reached from a load, undoing the step just taken gives the earlier state exactly, ..
  pub undone : (s a : State) (c : Command) → Reachable s → is_forward c ≡ true → run_state c s ≡ some a → run_state (reverse s c) a ≡ some s
  -- .. and so does retaking, by its own command, the step just undone.
  pub retaken : (s a : State) (c : Command) → Reachable s → is_forward c ≡ false → run_state c s ≡ some a → run_state (reverse s c) a ≡ some s
  -- A rollback undoes the newest passing of its checkpoint, all that depends on it ..
  pub rollback_allowed : (s : State) (p t : ℕ) → Sound s → Rollback s p t (rolled_number (rollback p t s)) (rolled_count (rollback p t s)) (rolled_state s (rollback p t s))
  pub nothing_else_allowed : (s end end' : State) (p t a a' n n' : ℕ) → Sound s → Rollback s p t a n end → Rollback s p t a' n' end' → (a ≡ a') × (n ≡ n') × (end ≡ end')
  -- .. and nothing else, ..
  pub least : (s end : State) (n : ℕ) (d e : Event) → Sound s → Undos s end n → happened s d ≡ true → happened end d ≡ false → WithDependents s d e → happened end e ≡ false
  -- .. and reports how many events that was."
  pub count_is_size : (s end : State) (p t n : ℕ) → Sound s → Rollback s p t done n end
      → (i : ℕ) × (newest_check t (history_at s p) ≡ some i) × HasSize s (WithDependents s (event (entries_of p) i)) n

-- "Take two sequences of accepted single steps, forward and back, from one state reached from a load. They end in equal states exactly when
-- the first can be turned into the second by finitely many changes of two kinds: exchange two neighbouring steps that 01 calls independent, or
-- remove or insert a step, forward or back, followed at once by the step that reverses it. All sequences on the way must be accepted too."
pub record Demand3 : Type 0 where
  pub consistent : (s a b : State) (ts us : List Command) → Reachable s → run_all run_state ts s ≡ some a → run_all run_state us s ≡ some b
      → (a ≡ b) ↔ TurnsInto s ts us

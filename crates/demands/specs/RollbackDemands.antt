-- What else is shown of rollback: the events that depend on an event are a cut, removing them is determined, any event can be removed as a
-- checkpoint can, and after a load none is held. Each statement is shown by its name in proofs/RollbackDemands.
use Rattle.std.specs.Prelude.{ℕ, suc, ◌≤◌, ◌+◌, ◌-◌, ◌≡◌, ◌≢◌, ◌⊎◌, ◌↔◌, true, false, List, ◌∷◌, ◌++◌}
use Rattle.std.proofs.Math.Option.{some}
use Rattle.rules.specs.Answers.{held}
use Rattle.rules.specs.State.{Message, Entry, Process, State, history_at}
use Rattle.rules.specs.Commands.{run_state}
use Rattle.rules.specs.Sound.{Sound}
use Rattle.rules.specs.Reverse.{total}
use Rattle.rules.specs.Depends.{arrivals, Series, entries_of, deliveries_to, level, happened, WithDependents, event, Event}
use Rattle.rules.specs.Rollback.{Removes, Rollback, stays, cut_before, undo_of, refused, rolled, rolled_number, undo_to, rollback}
use Rattle.demands.specs.Demands.{Reachable}

-- An event with all that depend on it takes the newest entries and the latest deliveries of each process, ..
pub record DependentsAreACut : Type 0 where
  pub newest : (s : State) (d : Event) (x : Series) (i j : ℕ) → WithDependents s d (event x i) → i ≤ j → happened s (event x j) ≡ true → WithDependents s d (event x j)
  -- .. and the cut that is computed takes just these
  pub cut : (s : State) (d e : Event) → Sound s → happened s d ≡ true → happened s e ≡ true → (stays (cut_before s d) e ≡ false) ↔ WithDependents s d e

-- the number of events, entries and deliveries, of one state that another has no more
unfoldable pub gone_at : State → State → ℕ → ℕ
gone_at s end p = (level s (entries_of p) - level end (entries_of p)) + (level s (deliveries_to p) - level end (deliveries_to p))

unfoldable pub events_gone : State → State → ℕ
events_gone s end = total (gone_at s end) s.sizes.places

-- Accepted undos that remove exactly a set of events, in every sound state and for every set:
pub record RemovalIsDetermined : Type 1 where
  -- whatever their order, they end in one state, and there are as many,
  pub one_end : (s end end' : State) (set : Event → Type 0) (n n' : ℕ) → Sound s → Removes s end set n → Removes s end' set n' → (end ≡ end') × (n ≡ n')
  -- as many as events are gone;
  pub count : (s end : State) (set : Event → Type 0) (n : ℕ) → Sound s → Removes s end set n → n ≡ events_gone s end
  -- what stays of a history are its oldest entries, and of the arrivals the first;
  pub histories : (s end : State) (set : Event → Type 0) (n p : ℕ) → Sound s → Removes s end set n → (newer : List Entry) × (history_at s p ≡ newer ++ history_at end p)
  pub deliveries : (s end : State) (set : Event → Type 0) (n q : ℕ) → Sound s → Removes s end set n → (later : List Message) × (arrivals s q ≡ arrivals end q ++ later)
  -- a process that stays has the control that it had with those entries: its present one, or the one before the oldest entry that goes;
  pub controls : (s end : State) (set : Event → Type 0) (n p : ℕ) (process : Process) → Sound s → Removes s end set n → end.processes p ≡ some process
      → (s.processes p ≡ some process) ⊎ ((newer : List Entry) × (e : Entry) × (history_at s p ≡ newer ++ (e ∷ process.history)) × (e.before ≡ process.control))
  -- the end state is sound;
  pub sound : (s end : State) (set : Event → Type 0) (n : ℕ) → Sound s → Removes s end set n → Sound end
  -- and an accepted undo inside the set never spoils the rest
  pub greedy : (s after end : State) (set : Event → Type 0) (n : ℕ) (x : Series) → Sound s → Removes s end set n → run_state (undo_of x) s ≡ some after → set (event x (level after x))
      → (k : ℕ) × (n ≡ suc k) × Removes after end set k

-- What demand 2 says of a checkpoint holds of any event: it is removed with all that depend on it where accepted undos in some order do that,
-- and is held else
pub record AnyEventGoes : Type 0 where
  pub removes : (s end : State) (d : Event) (n : ℕ) → Sound s → happened s d ≡ true → (undo_to s (cut_before s d) ≡ rolled n end) ↔ Removes s end (WithDependents s d) n
  pub holds : (s : State) (d : Event) → Sound s → happened s d ≡ true → (undo_to s (cut_before s d) ≡ refused held) ↔ ((end : State) (n : ℕ) → ¬ Removes s end (WithDependents s d) n)

-- "After a load, rollback never gives 13."
pub record NeverHeld : Type 0 where
  pub never : (s end : State) (p t n : ℕ) → Reachable s → ¬ Rollback s p t held n end
  pub answers : (s : State) (p t : ℕ) → Reachable s → rolled_number (rollback p t s) ≢ held
  -- any event can be removed with all that depend on it
  pub removable : (s : State) (d : Event) → Reachable s → happened s d ≡ true → (end : State) × (n : ℕ) × Removes s end (WithDependents s d) n

pub record RollbackDemands : Type 1 where
  pub dependents : DependentsAreACut
  pub removal : RemovalIsDetermined
  pub any_event : AnyEventGoes
  pub never : NeverHeld

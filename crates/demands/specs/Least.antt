-- "A rollback undoes the newest passing of its checkpoint, all that depends on it and nothing else": an event with all that depend on it is
-- the least set of events that accepted undos can take with it. Shown by `least_removal` of proofs/Least.
use Rattle.std.specs.Prelude.{ℕ, ◌≤◌, ◌+◌, ◌≡◌, true, false}
use Rattle.rules.specs.State.{State}
use Rattle.rules.specs.Sound.{Sound}
use Rattle.rules.specs.Depends.{Event, happened, WithDependents}
use Rattle.rules.specs.Rollback.{Undos, Removes}
use Rattle.demands.specs.Demands.{Reachable}

pub record LeastRemoval : Type 1 where
  -- accepted undos that take an event take all that depend on it;
  pub least : (s end : State) (n : ℕ) (d e : Event) → Sound s → Undos s end n → happened s d ≡ true → happened end d ≡ false
      → WithDependents s d e → happened end e ≡ false
  -- so a set that accepted undos remove, and that has the event, has all that depend on it,
  pub within : (s end : State) (set : Event → Type 0) (n : ℕ) (d e : Event) → Sound s → Removes s end set n → happened s d ≡ true → set d
      → WithDependents s d e → set e
  -- and where some accepted undos remove just these, others that take the event might as well begin with them
  pub begins : (s end after : State) (d : Event) (m n : ℕ) → Sound s → Removes s end (WithDependents s d) m → Undos s after n → happened after d ≡ false
      → (k : ℕ) × Undos end after k × (n ≡ m + k)
  -- after a load some do, and none that take the event are fewer
  pub smallest : (s : State) (d : Event) → Reachable s → happened s d ≡ true
      → (end : State) × (m : ℕ) × Removes s end (WithDependents s d) m × ((after : State) (n : ℕ) → Undos s after n → happened after d ≡ false → m ≤ n)

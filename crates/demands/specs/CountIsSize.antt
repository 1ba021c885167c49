-- "A rollback .. reports how many events that was". Shown by `count_is_size` of proofs/CountIsSize.
use Rattle.std.specs.Prelude.{ℕ, ◌≡◌}
use Rattle.std.proofs.Math.Option.{some}
use Rattle.rules.specs.Answers.{done}
use Rattle.rules.specs.State.{State, history_at}
use Rattle.rules.specs.Sound.{Sound}
use Rattle.rules.specs.Depends.{entries_of, Event, event, WithDependents}
use Rattle.rules.specs.Rollback.{newest_check, Removes, Rollback}
use Rattle.demands.specs.Size.{HasSize}

pub record CountIsSize : Type 1 where
  -- accepted undos that remove exactly a set are as many as it has members,
  pub removal : (s end : State) (set : Event → Type 0) (n : ℕ) → Sound s → Removes s end set n → HasSize s set n
  -- so the count of a rollback is the size of the newest passing with all that depend on it
  pub rollback : (s end : State) (p t n : ℕ) → Sound s → Rollback s p t done n end
      → (i : ℕ) × (newest_check t (history_at s p) ≡ some i) × HasSize s (WithDependents s (event (entries_of p) i)) n

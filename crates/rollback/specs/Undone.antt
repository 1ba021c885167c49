-- What the parts of a rollback answer, and what they leave in the store.
use Rattle.std.specs.Prelude.{ℕ, ◌≡◌, true, List, ◌++◌, Option, None, Some, Ok, Err}
use Rattle.std.proofs.Math.Option.{none, some}
use Rattle.rules.specs.Answers.{held}
use Rattle.rules.specs.State.{State, history_at}
use Rattle.rules.specs.Commands.{run_state}
use Rattle.rules.specs.Depends.{Series, happened, event}
use Rattle.rules.specs.Rollback.{Cut, cut_before, undo_of, newest_check, RolledBack, refused, rolled, undo_to, rolled_state}
use Rattle.store.specs.Layout.{image}
use Rattle.calls.specs.Numbers.{Answer}
use Rattle.calls.specs.declared.answers.Refusal.TheVariants.{Held}
use Rattle.reading.specs.Reads.{Holds}
use Rattle.cuts.specs.Links.{line_number}

-- ---- the writing

-- the undo of a line is accepted
pub record CanUndoLine (x : ℕ) (s : State) : Type 0 where
  pub line : Series
  pub numbered : line_number line ≡ x
  pub after : State
  pub accepted : run_state (undo_of line) s ≡ some after

unfoldable pub UndoesLine : (x : ℕ) (s s' : State) → Type 0
UndoesLine x s s' = (y : Series) → line_number y ≡ x → run_state (undo_of y) s ≡ some s'

-- an answer with the count, or 13
pub data Tells : RolledBack → Answer → Type 0 where
  tells_done : (n : ℕ) (end : State) → Tells (rolled n end) (Ok n)
  tells_held : Tells (refused held) (Err Held)

-- the words that held s hold what a rollback leaves, and words past it are as they were
pub record TakesBack (s : State) (rest exit : List ℕ) (back : RolledBack) (r : Answer) : Type 0 where
  pub tells : Tells back r
  pub leaves : exit ≡ image (rolled_state s back) ++ rest

-- something is so of the state that the words hold, and of the words past it
unfoldable pub OfWords : List ℕ → (State → List ℕ → Type 0) → Type 0
OfWords l P = (s : State) (rest : List ℕ) → Holds l s rest → P s rest

-- the words hold the state that undoing down to the cut gives
pub record Leaves (s : State) (cut : Cut) (rest exit : List ℕ) : Type 0 where
  pub leaves : exit ≡ image (rolled_state s (undo_to s cut)) ++ rest

-- it is known that undos reach the cut
pub record Reaches (s : State) (cut : Cut) : Type 0 where
  pub count : ℕ
  pub end : State
  pub known : undo_to s cut ≡ rolled count end

-- event i of line x has happened
pub record Happens (x i : ℕ) (s : State) : Type 0 where
  pub line : Series
  pub numbered : line_number line ≡ x
  pub happens : happened s (event line i) ≡ true

-- event i of line x is undone with all events that depend on it, or nothing is
unfoldable pub EventBack : (x i : ℕ) (exit : List ℕ) → Answer → State → List ℕ → Type 0
EventBack x i exit r s rest = (y : Series) → line_number y ≡ x → TakesBack s rest exit (undo_to s (cut_before s (event y i))) r

-- ---- the checkpoint

unfoldable pub FindsCheck : (p t : ℕ) → Option ℕ → State → Type 0
FindsCheck p t None s = newest_check t (history_at s p) ≡ none
FindsCheck p t (Some i) s = newest_check t (history_at s p) ≡ some i

-- What is written into a store, said of the state that it held.
use Rattle.std.specs.Prelude.{ℕ, ◌*◌, ◌<◌, ◌≡◌, true, List, [], ◌∷◌, ◌++◌, length}
use Rattle.std.proofs.Math.Option.{some}
use Rattle.lists.specs.Lists.{but_last}
use Rattle.rules.specs.State.{Message, State, in_pool}
use Rattle.rules.specs.Commands.{post, apply, back, run_state}
use Rattle.store.specs.Layout.{name_word, image}
use Rattle.reading.specs.Reads.{Holds}

-- the words that held a state now hold another, and words past it are as they were
unfoldable pub Leads : (entry exit : List ℕ) → (State → State → Type 0) → Type 0
Leads before exit To = (s s' : State) (rest : List ℕ) → Holds before s rest → To s s' → exit ≡ image s' ++ rest

-- a message of that name at the end of t's queue
pub record Posts (t name : ℕ) (s s' : State) : Type 0 where
  pub message : Message
  pub named : name_word message ≡ name
  pub after : s' ≡ apply (post t (s.queues t ++ (message ∷ []))) s

-- the newest message of p's queue goes
unfoldable pub Unposts : (p : ℕ) (s s' : State) → Type 0
Unposts p s s' = s' ≡ apply (post p (but_last (s.queues p))) s

-- p's newest entry is undone
unfoldable pub Undoes : (p : ℕ) (s s' : State) → Type 0
Undoes p s s' = run_state (back p) s ≡ some s'

-- ---- what has to hold before

-- a message at a place of the queue
abbrev pub CanTake : (p place : ℕ) → State → Type 0
CanTake p place s = place < length (s.queues p)

pub record CanPost (t : ℕ) (s : State) : Type 0 where
  pub lives : in_pool s t ≡ true
  pub has_room : length (s.queues t) < s.sizes.places * s.sizes.entries

-- the command is accepted
pub record CanUndo (p : ℕ) (s : State) : Type 0 where
  pub after : State
  pub accepted : run_state (back p) s ≡ some after

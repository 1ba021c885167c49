-- "Receive tries messages oldest first, for each the clauses in order." Which message of a queue a receive takes, and where it takes none:
-- `takes` is what its clauses, tried in order, make of a message's value, or none where each refuses it (`to_receive` of Work).
use Rattle.std.specs.Prelude.{ℕ, ◌≡◌, List, ◌∷◌, ◌++◌}
use Rattle.std.proofs.Math.Option.{Option, none, some}
use Rattle.lists.specs.Lists.{All}
use Rattle.rules.specs.State.{Message}

-- each message of a queue is refused
unfoldable pub NoneTaken : (List ℕ → Option (List ℕ)) → List Message → Type 0
NoneTaken takes queue = All (λ m. takes m.value ≡ none) queue

-- m is taken and gives the next control, and each message ahead of it in the queue is refused
pub record TakesOldest (takes : List ℕ → Option (List ℕ)) (queue ahead : List Message) (m : Message) (behind : List Message) (next : List ℕ) : Type 0 where
  pub stands : queue ≡ ahead ++ (m ∷ behind)
  pub older_refused : NoneTaken takes ahead
  pub taken : takes m.value ≡ some next

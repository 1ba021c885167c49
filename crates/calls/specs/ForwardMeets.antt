-- Request 12 of document 02 in words of stores: ".. that from a load the same state comes by forward steps alone, and that the number of those
-- steps is the number of entries plus the number of delivered messages, whichever forward sequence is taken." Shown by `forward_meets` of
-- proofs/ForwardMeets.
use Rattle.std.specs.Prelude.{ℕ, ◌≡◌, true, List, length}
use Rattle.lists.specs.Lists.{All}
use Rattle.rules.specs.Answers.{done}
use Rattle.rules.specs.State.{State}
use Rattle.rules.specs.Commands.{Command}
use Rattle.rules.specs.Reverse.{is_forward, amount_done}
use Rattle.store.specs.Loading.{Outcome}
use Rattle.calls.specs.Calls.{LoadCall}
use Rattle.calls.specs.Promises.{Served, ReachedStore}
use Rattle.calls.specs.WordsAgree.{Accepted}

-- a load of a state's own module and sizes into a store, and then forward calls alone, each answered 0, leave exactly the words that stood there
pub record ForwardCalls (l : List ℕ) (s : State) : Type 0 where
  pub loads : Outcome
  pub is_load : LoadCall s.module' s.sizes l loads
  pub answered : loads.number ≡ done
  pub commands : List Command
  pub all_forward : All (λ c. is_forward c ≡ true) commands
  pub lead : Accepted loads.left commands l

pub record ForwardMeets : Type 0 where
  -- so it is with every store after a load and any calls, rollbacks among them
  pub meets : (l : List ℕ) → Served l → (x : ReachedStore l) × ForwardCalls l x.state
  -- and however they are chosen, there are as many calls as entries and delivered messages
  pub counted : (l : List ℕ) (x : ReachedStore l) (f : ForwardCalls l x.state) → length f.commands ≡ amount_done x.state

-- Demand 1, under its sentence, and nothing else. "Nothing undefined happens" is what the check shows of every function; that a call answers
-- for all inputs, what its contract says: the public functions have no `requires`, and each contract is one of the relations named here.
use Rattle.std.specs.Prelude.{ℕ, ◌≤◌, ◌≡◌, ◌≢◌, List}
use Rattle.rules.specs.Answers.{done, bad_line}
use Rattle.rules.specs.State.{Sizes}
use Rattle.rules.specs.Line.{Request}
use Rattle.store.specs.Loading.{Outcome}
use Rattle.calls.specs.Calls.{RequestCall, LineCall, ListingCall, LoadCall}

-- a call on words or bytes that are lent to it
pub record Ends (Call : (lent : List ℕ) → Outcome → Type 0) : Type 0 where
  -- "Every call ends with one of document 01's numbered answers, for all modules, stores, commands and buffers": 0 to 17
  pub numbered : (lent : List ℕ) (o : Outcome) → Call lent o → o.number ≤ bad_line
  -- "The call itself refuses bad input, and a refusal leaves each word and byte lent to it unaltered."
  pub unaltered : (lent : List ℕ) (o : Outcome) → Call lent o → o.number ≢ done → o.left ≡ lent

pub record Demand1 : Type 0 where
  pub load : (module' : List ℕ) (sizes : Sizes) → Ends (LoadCall module' sizes)
  -- step, spawn, deliver, back, undeliver, rollback
  pub request : (request : Request) → Ends (RequestCall request)
  pub line : (line : List ℕ) → Ends (LineCall line)
  pub listing : (store : List ℕ) → Ends (ListingCall store)

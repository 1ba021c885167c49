-- What a call answers and leaves once it is known that its words hold a state.
use Rattle.std.specs.Prelude.{ℕ, ◌≡◌, List}
use Rattle.rules.specs.State.{State}
use Rattle.rules.specs.Commands.{Command, Plan}
use Rattle.rules.specs.Line.{Request, single}
use Rattle.rules.specs.Replies.{of_plan, perform}
use Rattle.reading.specs.Reads.{Holds}
use Rattle.calls.specs.Calls.{outcome, stored}
use Rattle.calls.specs.Numbers.{Answer, number_of, value_of}

-- of the state that the words hold, the answer and the words that are left are those of the request
unfoldable pub Answers : Request → (entry exit : List ℕ) → Answer → Type 0
Answers request entry exit r = (s : State) (rest : List ℕ) → Holds entry s rest → outcome (number_of r) (value_of r) exit ≡ stored (perform request s) rest

-- step, spawn, deliver, back and undeliver
abbrev pub Does : Command → (entry exit : List ℕ) → Answer → Type 0
Does c = Answers (single c)

-- the answer and the words that are left are those of a plan on the state, with the words past it as they were
abbrev pub Obeys : Plan → State → (rest exit : List ℕ) → Answer → Type 0
Obeys plan s rest exit r = outcome (number_of r) (value_of r) exit ≡ stored (of_plan s plan) rest

-- What the answers of the readers stand for.
use Rattle.std.specs.Prelude.{ℕ, ◌≡◌, List, Option, Some, None}
use Rattle.std.proofs.Math.Option.{Option as Maybe, none, some}
use Rattle.rules.specs.Text.{comma}
use Rattle.rules.specs.Commands.{step, spawn_into, deliver, back, undeliver}
use Rattle.rules.specs.Line.{Request, single, rollback_to, split, two_numbers}
use Rattle.parsing.specs.declared.parsing.Command.{Command}
use Rattle.parsing.specs.declared.parsing.Command.TheVariants.{Step, Spawn, Deliver, Back, Undeliver, Rollback}

-- the request that each line stands for
unfoldable pub request_of : Option Command → Maybe Request
request_of (Some (Step p)) = some (single (step p))
request_of (Some (Spawn p f)) = some (single (spawn_into p f))
request_of (Some (Deliver s k)) = some (single (deliver s k))
request_of (Some (Back p)) = some (single (back p))
request_of (Some (Undeliver p)) = some (single (undeliver p))
request_of (Some (Rollback p t)) = some (rollback_to p t)
request_of None = none

-- the number that a text is
unfoldable pub number_said : Option ℕ → Maybe ℕ
number_said (Some n) = some n
number_said None = none

-- what two numbers ask for, whatever that is
unfoldable pub asked_by : (ℕ → ℕ → Request) → Option (ℕ × ℕ) → Maybe Request
asked_by request (Some (a, b)) = some (request a b)
asked_by request None = none

-- a text of two numbers is read, whatever they ask for
unfoldable pub ReadsPair : List ℕ → Option (ℕ × ℕ) → Type 0
ReadsPair text r = (request : ℕ → ℕ → Request) → asked_by request r ≡ two_numbers request (split comma text)

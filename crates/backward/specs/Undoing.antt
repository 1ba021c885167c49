-- What the code of back and undeliver promises of a store that holds a state.
use Rattle.std.specs.Prelude.{ℕ, suc, ◌≡◌, Bool, true, false, length}
use Rattle.rules.specs.State.{State, history_at}
use Rattle.rules.specs.Commands.{Plan, refuse, accept}

-- entry i of p is its newest
abbrev pub IsNewest : (p i : ℕ) → State → Type 0
IsNewest p i s = length (history_at s p) ≡ suc i

-- whether a command is accepted
unfoldable pub is_accepted : Plan → Bool
is_accepted (refuse number) = false
is_accepted (accept deed move) = true

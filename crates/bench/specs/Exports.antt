-- What the calls for programs in other languages return.
use Rattle.std.specs.Prelude.{ℕ, ◌/◌, ◌%◌, List}
use Rattle.store.specs.Loading.{Outcome}
use Rattle.calls.specs.Calls.{outcome}
use Rattle.calls.specs.Numbers.{value_place}

-- value × 2^32 + number, and what is left where the call writes
unfoldable pub returned : (r : ℕ) → List ℕ → Outcome
returned r left = outcome (r % value_place) (r / value_place) left

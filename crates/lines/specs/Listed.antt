-- The listing as the program prints it.
use Rattle.std.specs.Prelude.{ℕ, ◌≤◌, ◌≡◌, List, length, take}
use Rattle.rules.specs.Listing.{listing_room}
use Rattle.calls.specs.Numbers.{Answer, value_of, Lists}

-- the listing in an output that has room for any listing; a refusal has the length 0, and nothing is printed
pub record Listed (store printed : List ℕ) : Type 0 where
  pub old : List ℕ
  pub new : List ℕ
  pub answer : Answer
  pub call : Lists store old new answer
  pub room : listing_room ≤ length old
  pub printed_is : printed ≡ take (value_of answer) new

-- The size of a set of events. 01: "the count being the size of a defined set".
use Rattle.std.specs.Prelude.{ℕ, ◌≡◌, ◌↔◌, true, List, length}
use Rattle.lists.specs.Members.{In, NoneTwice}
use Rattle.rules.specs.State.{State}
use Rattle.rules.specs.Depends.{Event, happened}

-- a set of events that have happened has n members: they can be listed, each once
pub record HasSize (s : State) (set : Event → Type 0) (n : ℕ) : Type 0 where
  pub members : List Event
  pub each_once : NoneTwice members
  pub exactly : (e : Event) → In e members ↔ ((happened s e ≡ true) × set e)
  pub size : length members ≡ n

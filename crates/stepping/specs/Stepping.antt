-- What the functions of step and spawn ask for, said of the state that a store holds.
use Rattle.std.specs.Prelude.{ℕ, ◌<◌, ◌≡◌, false}
use Rattle.step.specs.Controls.{doing_of}
use Rattle.step.specs.declared.work.Doing.{Doing}
use Rattle.rules.specs.State.{State, in_pool}
use Rattle.reading.specs.Reads.{Lives}
use Rattle.making.specs.Making.{about}

-- p lives, and that is what it is about to do
pub record About (p : ℕ) (d : Doing) (s : State) : Type 0 where
  pub lives : Lives p s
  pub is : d ≡ doing_of (about s p)

-- a place for a child
pub record Free (f : ℕ) (s : State) : Type 0 where
  pub is_place : f < s.sizes.places
  pub is_free : in_pool s f ≡ false

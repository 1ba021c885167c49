-- Which words are an image.
use Rattle.std.specs.Prelude.{ℕ, ◌≡◌, List, ◌++◌}
use Rattle.rules.specs.State.{State}
use Rattle.rules.specs.Sound.{Sound}
use Rattle.store.specs.Layout.{image}

-- the words begin with the image of a sound state
pub record IsImage (l : List ℕ) : Type 0 where
  pub state : State
  pub rest : List ℕ
  pub sound : Sound state
  pub words : l ≡ image state ++ rest

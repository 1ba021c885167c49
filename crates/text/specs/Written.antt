-- What the writers leave in a lent output.
use Rattle.std.specs.Prelude.{ℕ, zero, suc, ◌+◌, ◌<◌, min, ◌≡◌, List, [], ◌∷◌, length}
use Rattle.std.proofs.lemmas.List.Edits.{sets}
use Rattle.rules.specs.Text.{space}

-- no slice of bytes is so long: a position stops there
abbrev pub far : ℕ
far = 9223372036854775808

abbrev pub onward : ℕ → ℕ
onward at = min at far

-- the bytes ws stand in the output from a position on, as far as it reaches, all else stands as it stood, and the answer is the position after them
pub record Wrote (ws : List ℕ) (at : ℕ) (old new : List ℕ) (end : ℕ) : Type 0 where
  pub new_is : new ≡ sets old at ws
  pub end_is : end ≡ onward (at + length ws)
  pub short : length old < far

-- what stands before piece i of a row that is split by single spaces
unfoldable pub gap : ℕ → List ℕ
gap zero = []
gap (suc i) = space ∷ []

-- Prefixes of rows of words.
use Rattle.std.specs.Prelude.{ℕ, suc, Bool, true, false, ◌&&◌, List, [], ◌∷◌, ◌++◌, eqb, take, drop}

-- a list of words begins with another
unfoldable pub begins : List ℕ → List ℕ → Bool
begins [] ys = true
begins (x ∷ xs) [] = false
begins (x ∷ xs) (y ∷ ys) = eqb x y && begins xs ys

-- a queue without the message at a place is a prefix of another
unfoldable pub left_begins : ℕ → List ℕ → List ℕ → Bool
left_begins taken before after = begins (take taken before ++ drop (suc taken) before) after

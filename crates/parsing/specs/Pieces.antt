-- Where pieces of a text end.
use Rattle.std.specs.Prelude.{ℕ, zero, suc, ◌+◌, min, true, false, List, [], ◌∷◌, eqb, length, drop}

-- how many bytes stand before the first separator, or in all
unfoldable pub before : (separator : ℕ) → List ℕ → ℕ
before separator [] = zero
before separator (b ∷ bs) = elim (eqb b separator) [ true ↦ zero | false ↦ suc (before separator bs) ]

-- where the piece that begins at a position ends; a position past the end begins none
unfoldable pub piece_end : (separator : ℕ) → List ℕ → ℕ → ℕ
piece_end separator text at = min (length text) (at + before separator (drop at text))

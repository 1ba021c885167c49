-- Terms in a row of words, without reading them into trees: how many words they take.
use Rattle.std.specs.Prelude.{ℕ, zero, suc, ◌+◌, true, false, List, [], ◌∷◌, eqb}
use Rattle.term.specs.Words.{tag_of, n_of, tag_integer}
use Rattle.term.specs.Table.{arity}

-- how many words the first terms of a row take, of which so many are owed; all of them where words run out
unfoldable mutual
  pub passed : List ℕ → ℕ → ℕ
  passed [] owed = 0
  passed (w ∷ l) zero = 0
  passed (w ∷ l) (suc owed) = elim (eqb (tag_of w) tag_integer) [ true ↦ suc (passed_payload l owed) | false ↦ suc (passed l (arity (tag_of w) (n_of w) + owed)) ]

  pub passed_payload : List ℕ → ℕ → ℕ
  passed_payload [] owed = 0
  passed_payload (x ∷ l) owed = suc (passed l owed)

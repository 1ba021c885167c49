-- Why =:= may compare words: a value has one row, and where the row ends is told by the row. `SameRows` is shown by `same_rows` of proofs/SameRows.
use Rattle.std.specs.Prelude.{◌≡◌, List, ◌++◌, ℕ}
use Rattle.lists.specs.Lists.{same_list}
use Rattle.term.specs.Tree.{Term, words, Whole}
use Rattle.machine.specs.Value.{same_term}

pub record SameRows : Type 0 where
  -- "Every value has one row of words": two terms are equal exactly when their rows are
  pub rows_tell : (t u : Term) → Whole t → Whole u → same_term t u ≡ same_list (words t) (words u)
  -- no row is the front of another: whatever follows them, rows that go on alike are equal and end together
  pub ends_tell : (t u : Term) (after after' : List ℕ) → Whole t → Whole u → words t ++ after ≡ words u ++ after' → (words t ≡ words u) × (after ≡ after')

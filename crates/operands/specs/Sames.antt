-- What the comparison of values in rows promises.
use Rattle.std.specs.Prelude.{ℕ, ◌≡◌, Bool, List, ◌++◌, drop}
use Rattle.term.specs.Tree.{Terms, words_of, count, WholeAll}
use Rattle.machine.specs.Value.{same_terms}

-- whether the terms at i in a are those at j in b
unfoldable pub Sames : (a : List ℕ) (i : ℕ) (b : List ℕ) (j p : ℕ) (r : Bool) → Type 0
Sames a i b j p r =
    (ts us : Terms) (rest rest' : List ℕ) → WholeAll ts → WholeAll us → count ts ≡ p → count us ≡ p
    → drop i a ≡ words_of ts ++ rest → drop j b ≡ words_of us ++ rest' → r ≡ same_terms ts us

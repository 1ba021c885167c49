-- Where the working place of a term is in its row, and what the search for it promises.
use Rattle.std.specs.Prelude.{ℕ, zero, suc, ◌+◌, ◌≤◌, ◌<◌, ◌≡◌, cond, List, ◌++◌, length, drop, Option, Some, None}
use Rattle.term.specs.Words.{tag_of, n_of}
use Rattle.term.specs.Tree.{Term, Terms, int, node, end, ◌then◌, words, words_of, count, Head, WholeAll}
use Rattle.term.specs.Value.{is_value}
use Rattle.machine.specs.Place.{entered}
use Rattle.row_laws.specs.Bounds.{most_children}

-- where the working place of a term at `at` is; among the first m of some terms, in a term at `here`
unfoldable mutual
  pub place_of : Term → ℕ → ℕ
  place_of (int x) at = at
  place_of (node tag n k ts) at = place_among ts (entered tag ts) at (at + 1)

  pub place_among : Terms → ℕ → ℕ → ℕ → ℕ
  place_among end m here at = here
  place_among (t then ts) zero here at = here
  place_among (t then ts) (suc m) here at = cond (is_value t) (place_among ts m here (at + length (words t))) (place_of t at)

-- so many of the first children of a word are gone into
pub record EntersOf (w r : ℕ) : Type 0 where
  pub same_place : (k : ℕ) (ts : Terms) → Head (tag_of w) (n_of w) k (count ts) → (here at : ℕ) → place_among ts r here at ≡ place_among ts (entered (tag_of w) ts) here at
  pub among : (k : ℕ) (ts : Terms) → Head (tag_of w) (n_of w) k (count ts) → r ≤ count ts
  pub few : r ≤ most_children

unfoldable pub Finds : List ℕ → ℕ → ℕ → ℕ → ℕ → Type 0
Finds l at m here r = (ts : Terms) (rest : List ℕ) → WholeAll ts → m ≤ count ts → drop at l ≡ words_of ts ++ rest → r ≡ place_among ts m here at

-- where the first of a row's terms is worked on, if that is a place in the row
abbrev pub PlaceIs : List ℕ → Option ℕ → Type 0
PlaceIs c (Some at) = Finds c 0 1 (length c) at × (at < length c)
PlaceIs c None = (at : ℕ) × Finds c 0 1 (length c) at × (length c ≤ at)

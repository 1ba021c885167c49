-- Well-shaped trees: what `shape` asks of words, said of trees.
use Rattle.std.specs.Prelude.{ℕ, ◌≡◌, true, List, [], ◌∷◌}
use Rattle.term.specs.Words.{word, integer_word}
use Rattle.term.specs.Table.{fits, child_spots}
use Rattle.term.specs.Tree.{Term, Terms, int, node, end, ◌then◌, count, Head}

-- a term may stand at a spot: its word may, and its children at the spots below it
unfoldable mutual
  pub Fit : (places spot : ℕ) → Term → Type 0
  Fit places spot (int x) = fits places spot integer_word ≡ true
  Fit places spot (node tag n k ts) = Head tag n k (count ts) × (fits places spot (word tag n k) ≡ true) × FitAll places ts (child_spots spot (word tag n k))

  pub FitAll : (places : ℕ) → Terms → List ℕ → Type 0
  FitAll places end [] = Unit {0}
  FitAll places end (s ∷ spots) = ⊥
  FitAll places (t then ts) [] = ⊥
  FitAll places (t then ts) (s ∷ spots) = Fit places s t × FitAll places ts spots

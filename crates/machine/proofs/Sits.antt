-- Where a term may stand: what `shape` asks of words, said of a tree's tag, n and k. An integer's two's complement may be any number.
use Prim.Native.Nat.{ℕ, ◌<◌, ◌≤◌}
use mathlib.Core.Path.{◌≡◌}
use mathlib.Core.Bool.{true}
use mathlib.Core.List.{List, [], ◌∷◌}
use Rattle.lists.specs.Lists.{member}
use Rattle.term.specs.Words.{tag_integer}
use Rattle.term.specs.Table.{row_of, tags_at, k_limit, spots_below}
use Rattle.term.specs.Tree.{Term, Terms, int, node, end, ◌then◌}

-- a word of this tag, n and k may stand at a spot
pub record Stands (places spot tag n k : ℕ) : Type 0 where
  pub no_integer : ¬ (tag ≡ tag_integer)
  pub tag_there : member tag (tags_at places spot) ≡ true
  pub least_n : (row_of tag).least ≤ n
  pub greatest_n : n ≤ (row_of tag).greatest
  pub k_below : k < k_limit places tag

-- the spots below a word of this tag and n that stands at a spot
abbrev pub spots_under : ℕ → ℕ → ℕ → List ℕ
spots_under spot tag n = spots_below (row_of tag).children spot tag n

unfoldable mutual
  pub Sits : (places spot : ℕ) → Term → Type 0
  Sits places spot (int x) = member tag_integer (tags_at places spot) ≡ true
  Sits places spot (node tag n k ts) = Stands places spot tag n k × SitAll places ts (spots_under spot tag n)

  pub SitAll : (places : ℕ) → Terms → List ℕ → Type 0
  SitAll places end [] = Unit {0}
  SitAll places end (s ∷ spots) = ⊥
  SitAll places (t then ts) [] = ⊥
  SitAll places (t then ts) (s ∷ spots) = Sits places s t × SitAll places ts spots

-- What stands below a word, as the code calls it, and how many children a word has.
use Rattle.std.specs.Prelude.{ℕ, ◌≤◌, ◌≡◌}
use Rattle.term.specs.Words.{tag_of, n_of}
use Rattle.term.specs.Table.{Children, alike, body, of_clause, of_case, of_receive, arity}
use Rattle.rows.specs.declared.tables.ChildKind.{ChildKind}
use Rattle.rows.specs.declared.tables.ChildKind.TheVariants.{Alike, Body, OfClause, OfCase, OfReceive}

-- what the code calls it
abbrev pub children_of : ChildKind → Children
children_of Alike = alike
children_of Body = body
children_of OfClause = of_clause
children_of OfCase = of_case
children_of OfReceive = of_receive

-- r children follow the word w
pub record ChildCount (w r : ℕ) : Type 0 where
  pub is : r ≡ arity (tag_of w) (n_of w)
  pub few : r ≤ 256

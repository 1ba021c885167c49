-- Values.
use Rattle.std.specs.Prelude.{Bool, true, ◌&&◌, leb}
use Rattle.term.specs.Words.{tag_atom, tag_tuple}
use Rattle.term.specs.Tree.{Term, Terms, int, node, end, ◌then◌}

-- "Values use tags 2 to 7."
unfoldable mutual
  pub is_value : Term → Bool
  is_value (int x) = true
  is_value (node tag n k ts) = leb tag_atom tag && leb tag tag_tuple && are_values ts

  pub are_values : Terms → Bool
  are_values end = true
  are_values (t then ts) = is_value t && are_values ts

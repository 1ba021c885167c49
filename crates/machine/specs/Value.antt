-- Values, and when two of them are equal.
use Rattle.std.specs.Prelude.{ℕ, Bool, true, false, cond, ◌&&◌, eqb}
use Rattle.term.specs.Words.{tag_atom, tag_pid}
use Rattle.term.specs.Tree.{Term, Terms, int, node, end, ◌then◌}
unfoldable pub use Rattle.term.specs.Value.{is_value, are_values}

-- the same term throughout
unfoldable mutual
  pub same_term : Term → Term → Bool
  same_term (int x) (int y) = eqb x y
  same_term (int x) (node tag n k ts) = false
  same_term (node tag n k ts) (int y) = false
  same_term (node tag n k ts) (node tag' n' k' ts') = eqb tag tag' && eqb n n' && eqb k k' && same_terms ts ts'

  pub same_terms : Terms → Terms → Bool
  same_terms end end = true
  same_terms end (u then us) = false
  same_terms (t then ts) end = false
  same_terms (t then ts) (u then us) = same_term t u && same_terms ts us

abbrev pub atom : ℕ → Term
atom k = node tag_atom 0 k end

abbrev pub pid : ℕ → Term
pid p = node tag_pid 0 p end

-- "Truth is atom 0, falsehood atom 1."
unfoldable pub truth : Bool → Term
truth b = cond b (atom 0) (atom 1)

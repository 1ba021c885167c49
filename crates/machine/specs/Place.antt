-- The working place. 01: "The leftmost part not yet a value is worked on first: starting from the whole, go into the leftmost non-value
-- child, and work on the term that has none. Clauses and a let's body wait and aren't gone into."
use Rattle.std.specs.Prelude.{ℕ, zero, suc, Bool, true, false, cond, ◌||◌, eqb}
use Rattle.term.specs.Words.{tag_case, tag_let, tag_receive}
use Rattle.term.specs.Tree.{Term, Terms, int, node, end, ◌then◌, count}
use Rattle.machine.specs.Value.{is_value}

-- how many children may be gone into: of a case and a let the first, of a receive none, of any other all
unfoldable pub entered : ℕ → Terms → ℕ
entered tag ts = cond (eqb tag tag_case || eqb tag tag_let) 1 (cond (eqb tag tag_receive) 0 (count ts))

-- the part of a term that is worked on; `working_in` looks in the first m children, and gives the whole where all of them are values
unfoldable mutual
  pub working : Term → Term
  working (int x) = int x
  working (node tag n k ts) = working_in ts (entered tag ts) (node tag n k ts)

  pub working_in : Terms → ℕ → Term → Term
  working_in end m whole = whole
  working_in (t then ts) zero whole = whole
  working_in (t then ts) (suc m) whole = elim (is_value t) [ true ↦ working_in ts m whole | false ↦ working t ]

-- the first m children are values
unfoldable pub ready : Terms → ℕ → Bool
ready end m = true
ready (t then ts) zero = true
ready (t then ts) (suc m) = elim (is_value t) [ true ↦ ready ts m | false ↦ false ]

-- a term with another in the working place
unfoldable mutual
  pub replaced : Term → Term → Term
  replaced (int x) new = new
  replaced (node tag n k ts) new = elim (ready ts (entered tag ts)) [ true ↦ new | false ↦ node tag n k (replaced_in ts (entered tag ts) new) ]

  pub replaced_in : Terms → ℕ → Term → Terms
  replaced_in end m new = end
  replaced_in (t then ts) zero new = t then ts
  replaced_in (t then ts) (suc m) new = elim (is_value t) [ true ↦ t then replaced_in ts m new | false ↦ replaced t new then ts ]

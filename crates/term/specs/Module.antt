-- Modules: the check that load makes, and the functions of a module.
use Rattle.std.specs.Prelude.{ℕ, zero, suc, true, false, List, [], ◌∷◌, eqb, ltb, length}
use Rattle.std.proofs.Math.Option.{Option, none, some}
use Rattle.lists.specs.Lists.{member, up_to}
use Rattle.term.specs.Table.{table, row_of, child_count, arity, tags_at, k_limit, fits, own_spot, spots_below, child_spots}
use Rattle.term.specs.Tree.{Term, Terms, int, node, end, ◌then◌, first, rest}
use Rattle.term.specs.Read.{before, under, read, read_payload, terms_of}
use Rattle.term.specs.Shape.{wanted, shape, shape_payload, module_shape}
use Rattle.term.specs.Binding.{Walk, breaks, passes, and_then, binds, binds_all, names, keeps_rule, checks_after, keeps, keeps_all, keeps_let, keeps_clause, function_keeps, functions_keep}

-- "A module has at most 512 words."
abbrev pub longest_module : ℕ
longest_module = 512

-- a function's parameter count and body
unfoldable pub parameters_of : Term → ℕ
parameters_of (int x) = 0
parameters_of (node tag n k ts) = n

unfoldable pub body_of : Term → Terms
body_of (int x) = end
body_of (node tag n k ts) = ts

-- the parameter counts of functions, by number
unfoldable pub arities_of : Terms → List ℕ
arities_of end = []
arities_of (f then fs) = parameters_of f ∷ arities_of fs

-- the function of a number
unfoldable pub function_of : Terms → ℕ → Option Term
function_of end k = none
function_of (f then fs) zero = some f
function_of (f then fs) (suc k) = function_of fs k

-- "function 0 has no parameters", else its word breaks the rule; then the words after it
unfoldable pub rules_from : List ℕ → Terms → Walk
rules_from [] fs = breaks 0
rules_from (count ∷ counts) fs = elim (eqb count 0) [ true ↦ functions_keep (count ∷ counts) fs 0 [] | false ↦ breaks 0 ]

unfoldable pub breaker : Walk → Option ℕ
breaker (breaks at) = some at
breaker (passes at scope checks) = none

-- the least position of a word that breaks a rule
unfoldable pub first_breaker : Terms → Option ℕ
first_breaker fs = breaker (rules_from (arities_of fs) fs)

-- None for a good module, else the position of the answer 1: "A module longer than 512 gives 512. Else shape comes first. Only a
-- well-shaped module is tested for the rest."
unfoldable pub check_module : List ℕ → Option ℕ
unfolding member up_to table row_of child_count arity tags_at k_limit fits own_spot spots_below child_spots first rest before under read read_payload terms_of wanted shape shape_payload module_shape and_then binds binds_all names keeps_rule checks_after keeps keeps_all keeps_let keeps_clause function_keeps functions_keep parameters_of arities_of rules_from breaker first_breaker
check_module l = elim (ltb longest_module (length l)) [
  | true ↦ some longest_module
  | false ↦ elim (module_shape l) [ some at ↦ some at | none ↦ first_breaker (terms_of l) ]
]

-- The rules past shape: binding, names of functions, numbers of checks.
-- The words are gone through in order, so the first that breaks a rule has the least position, and of two equal numbers or binders
-- the later breaks it.
use Rattle.std.specs.Prelude.{ℕ, suc, ◌+◌, Bool, true, false, cond, not, ◌&&◌, ◌||◌, List, [], ◌∷◌, eqb}
use Rattle.std.proofs.Math.Option.{none, some}
use Rattle.std.proofs.Math.ListN.{get_elem?}
use Rattle.lists.specs.Lists.{member, up_to}
use Rattle.term.specs.Words.{tag_variable, tag_apply, tag_spawn, tag_let, tag_check, tag_clause}
use Rattle.term.specs.Tree.{Term, Terms, int, node, end, ◌then◌}

-- what going through some words comes to: the position of a word that breaks a rule; or the position after them, with the variables
-- in scope there and the check numbers met so far
pub data Walk : Type 0 where
  breaks : ℕ → Walk
  passes : (at : ℕ) (scope : List ℕ) (checks : List ℕ) → Walk

unfoldable pub and_then : Walk → (ℕ → List ℕ → List ℕ → Walk) → Walk
and_then (breaks at) next = breaks at
and_then (passes at scope checks) next = next at scope checks

-- "Patterns use .. no variable twice", and "never bound again inside its own scope": each variable of a pattern is new
unfoldable mutual
  pub binds : List ℕ → Term → ℕ → List ℕ → Walk
  binds scope (int x) at checks = passes (at + 2) scope checks
  binds scope (node tag n k ts) at checks = elim (eqb tag tag_variable) [
    | true ↦ elim (member k scope) [ true ↦ breaks at | false ↦ passes (suc at) (k ∷ scope) checks ]
    | false ↦ binds_all scope ts (suc at) checks
  ]

  pub binds_all : List ℕ → Terms → ℕ → List ℕ → Walk
  binds_all scope end at checks = passes at scope checks
  binds_all scope (t then ts) at checks = and_then (binds scope t at checks) (λ at' scope' checks'. binds_all scope' ts at' checks')

-- "Apply and spawn name an existing function with its parameter count": the parameter counts of the functions by number
unfoldable pub names : List ℕ → ℕ → ℕ → Bool
names arities k n = elim (get_elem? arities k) [ none ↦ false | some count ↦ eqb count n ]

-- the rule for one word: "Every variable is bound where it is used and never bound again inside its own scope. Apply and spawn name
-- an existing function with its parameter count. Check numbers are unique" (of a module; a running control may repeat them)
unfoldable pub keeps_rule : (arities : List ℕ) (unique : Bool) (scope checks : List ℕ) (tag n k : ℕ) → Bool
keeps_rule arities unique scope checks tag n k =
    cond (eqb tag tag_variable) (member k scope)
    (cond (eqb tag tag_apply || eqb tag tag_spawn) (names arities k n)
    (cond (eqb tag tag_let) (not (member k scope))
    (cond (eqb tag tag_check) (not (unique && member k checks))
    true)))

unfoldable pub checks_after : ℕ → ℕ → List ℕ → List ℕ
checks_after tag k checks = cond (eqb tag tag_check) (k ∷ checks) checks

-- a term outside patterns that begins at a position. A let's variable is in scope in its body alone, a clause's in its guard and body.
unfoldable mutual
  pub keeps : (arities : List ℕ) (unique : Bool) (scope : List ℕ) → Term → ℕ → List ℕ → Walk
  keeps arities unique scope (int x) at checks = passes (at + 2) scope checks
  keeps arities unique scope (node tag n k ts) at checks = elim (keeps_rule arities unique scope checks tag n k) [
    | false ↦ breaks at
    | true ↦ elim (eqb tag tag_let) [
      | true ↦ keeps_let arities unique scope k ts (suc at) checks
      | false ↦ elim (eqb tag tag_clause) [
        | true ↦ keeps_clause arities unique scope ts (suc at) checks
        | false ↦ keeps_all arities unique scope ts (suc at) (checks_after tag k checks)
      ]
    ]
  ]

  pub keeps_all : (arities : List ℕ) (unique : Bool) (scope : List ℕ) → Terms → ℕ → List ℕ → Walk
  keeps_all arities unique scope end at checks = passes at scope checks
  keeps_all arities unique scope (t then ts) at checks =
      and_then (keeps arities unique scope t at checks) (λ at' scope' checks'. keeps_all arities unique scope ts at' checks')

  -- bound, then the body
  pub keeps_let : (arities : List ℕ) (unique : Bool) (scope : List ℕ) (k : ℕ) → Terms → ℕ → List ℕ → Walk
  keeps_let arities unique scope k end at checks = passes at scope checks
  keeps_let arities unique scope k (bound then body) at checks =
      and_then (keeps arities unique scope bound at checks) (λ at' scope' checks'. keeps_all arities unique (k ∷ scope) body at' checks')

  -- pattern, then guard and body
  pub keeps_clause : (arities : List ℕ) (unique : Bool) (scope : List ℕ) → Terms → ℕ → List ℕ → Walk
  keeps_clause arities unique scope end at checks = passes at scope checks
  keeps_clause arities unique scope (pattern then guard_and_body) at checks =
      and_then (binds scope pattern at checks) (λ at' scope' checks'. keeps_all arities unique scope' guard_and_body at' checks')

-- the functions of a module: parameters 0..n-1 are in scope in the whole function
unfoldable pub function_keeps : List ℕ → Term → ℕ → List ℕ → Walk
function_keeps arities (int x) at checks = breaks at
function_keeps arities (node tag n k ts) at checks = keeps_all arities true (up_to n) ts (suc at) checks

unfoldable pub functions_keep : List ℕ → Terms → ℕ → List ℕ → Walk
functions_keep arities end at checks = passes at [] checks
functions_keep arities (f then fs) at checks = and_then (function_keeps arities f at checks) (λ at' scope checks'. functions_keep arities fs at' checks')

-- What the functions on clauses promise.
use Rattle.std.specs.Prelude.{ℕ, ◌≡◌, Bool, true, false, List, ◌++◌, drop, Option, Some, None}
use Rattle.std.proofs.Math.Option.{Option as Maybe, none, some}
use Rattle.term.specs.Tree.{Term, Terms, node, end, ◌then◌, words_of, count}
use Rattle.term.specs.Value.{is_value}
use Rattle.machine.specs.Clauses.{clause_takes, first_clause}
use Rattle.row_laws.specs.Rows.{Stands, PlainAll}
use Rattle.operands.specs.Guards.{IsGuard}

-- a clause as the control check has it: pattern, guard and body
pub record ClauseIs (t : Term) : Type 0 where
  pub tag : ℕ
  pub n : ℕ
  pub k : ℕ
  pub pattern : Term
  pub guard : Term
  pub body : Term
  pub is : t ≡ node tag n k (pattern then (guard then (body then end)))
  pub is_guard : IsGuard guard

unfoldable pub AreClauses : Terms → Type 0
AreClauses end = Unit {0}
AreClauses (t then ts) = ClauseIs t × AreClauses ts

unfoldable pub is_some : Maybe Term → Bool
is_some none = false
is_some (some t) = true

unfoldable pub TakesAt : (c : List ℕ) (at : ℕ) (v : List ℕ) (va : ℕ) → Bool → Type 0
TakesAt c at v va r = (t u : Term) → ClauseIs t → Stands c at t → Stands v va u → is_value u ≡ true → r ≡ is_some (clause_takes u t)

-- a clause that stands in the row and takes the value as the first of some clauses
pub record Takes (c : List ℕ) (at : ℕ) (u : Term) (clauses : Terms) : Type 0 where
  pub clause : Term
  pub body : Term
  pub stands : Stands c at clause
  pub is_clause : ClauseIs clause
  pub takes : clause_takes u clause ≡ some body
  pub first : first_clause u clauses ≡ some body

unfoldable pub ChosenIs : (c : List ℕ) (u : Term) (clauses : Terms) → Option ℕ → Type 0
ChosenIs c u clauses (Some at) = Takes c at u clauses
ChosenIs c u clauses None = first_clause u clauses ≡ none

unfoldable pub ChoosesAt : (c : List ℕ) (at n : ℕ) (v : List ℕ) (va : ℕ) → Option ℕ → Type 0
ChoosesAt c at n v va r =
    (clauses : Terms) (rest : List ℕ) (u : Term) → PlainAll clauses → AreClauses clauses → count clauses ≡ n → drop at c ≡ words_of clauses ++ rest → Stands v va u → is_value u ≡ true
    → ChosenIs c u clauses r

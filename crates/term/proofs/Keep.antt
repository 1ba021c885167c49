-- The binding rules on trees: what `keeps` and `binds` ask, with no positions and no check numbers.
use Prim.Native.Nat.{ℕ}
use mathlib.Core.Path.{◌≡◌}
use mathlib.Core.Bool.{Bool, true, false}
use mathlib.Core.List.{List, [], ◌∷◌}
use lib.Dec.{eqb}
use Rattle.lists.specs.Lists.{member}
use Rattle.term.specs.Words.{tag_variable, tag_let, tag_clause}
use Rattle.term.specs.Tree.{Term, Terms, int, node, end, ◌then◌}
use Rattle.term.specs.Binding.{keeps_rule}

-- one of two types, by a test
abbrev pub Choice : Bool → Type 0 → Type 0 → Type 0
Choice true A B = A
Choice false A B = B

-- the variables in scope after a pattern
unfoldable mutual
  pub opens : List ℕ → Term → List ℕ
  opens scope (int x) = scope
  opens scope (node tag n k ts) = elim (eqb tag tag_variable) [ true ↦ k ∷ scope | false ↦ opens_all scope ts ]

  pub opens_all : List ℕ → Terms → List ℕ
  opens_all scope end = scope
  opens_all scope (t then ts) = opens_all (opens scope t) ts

-- each variable of a pattern is new
unfoldable mutual
  pub New : List ℕ → Term → Type 0
  New scope (int x) = Unit {0}
  New scope (node tag n k ts) = Choice (eqb tag tag_variable) (member k scope ≡ false) (NewAll scope ts)

  pub NewAll : List ℕ → Terms → Type 0
  NewAll scope end = Unit {0}
  NewAll scope (t then ts) = New scope t × NewAll (opens scope t) ts

-- a term outside patterns keeps the rules, but for the numbers of checks
unfoldable mutual
  pub Keeps : (arities scope : List ℕ) → Term → Type 0
  Keeps arities scope (int x) = Unit {0}
  Keeps arities scope (node tag n k ts) = (keeps_rule arities false scope [] tag n k ≡ true) × Choice (eqb tag tag_let) (KeepsLet arities scope k ts) (Choice (eqb tag tag_clause) (KeepsClause arities scope ts) (KeepsAll arities scope ts))

  pub KeepsAll : (arities scope : List ℕ) → Terms → Type 0
  KeepsAll arities scope end = Unit {0}
  KeepsAll arities scope (t then ts) = Keeps arities scope t × KeepsAll arities scope ts

  pub KeepsLet : (arities scope : List ℕ) (k : ℕ) → Terms → Type 0
  KeepsLet arities scope k end = Unit {0}
  KeepsLet arities scope k (bound then body) = Keeps arities scope bound × KeepsAll arities (k ∷ scope) body

  pub KeepsClause : (arities scope : List ℕ) → Terms → Type 0
  KeepsClause arities scope end = Unit {0}
  KeepsClause arities scope (pattern then guard_and_body) = New scope pattern × KeepsAll arities (opens scope pattern) guard_and_body

-- Matching a pattern against a value, and the values that its variables take.
use Rattle.std.specs.Prelude.{ℕ, Bool, true, false, cond, ◌&&◌, eqb}
use Rattle.std.proofs.Math.Option.{Option, none, some}
use Rattle.term.specs.Words.{tag_variable}
use Rattle.term.specs.Tree.{Term, Terms, int, node, end, ◌then◌}

-- the value of each variable that has one
abbrev pub Bindings : Type 0
Bindings = ℕ → Option Term

abbrev pub unbound : Bindings
unbound = λ k. none

unfoldable pub with : ℕ → Term → Bindings → Bindings
with k v bindings j = cond (eqb k j) (some v) (bindings j)

-- the children of a value whose word is that of tag, n and k
unfoldable pub children_of : (tag n k : ℕ) → Term → Option Terms
children_of tag n k (int y) = none
children_of tag n k (node tag' n' k' vs) = cond (eqb tag tag' && eqb n n' && eqb k k') (some vs) none

unfoldable pub is_integer : ℕ → Term → Bool
is_integer x (int y) = eqb x y
is_integer x (node tag n k ts) = false

-- a variable takes any value; any other pattern wants the same word, and its children match
unfoldable mutual
  pub match : Term → Term → Bindings → Option Bindings
  match (int x) v bindings = cond (is_integer x v) (some bindings) none
  match (node tag n k ps) v bindings = elim (eqb tag tag_variable) [
    | true ↦ some (with k v bindings)
    | false ↦ elim (children_of tag n k v) [ none ↦ none | some vs ↦ match_all ps vs bindings ]
  ]

  pub match_all : Terms → Terms → Bindings → Option Bindings
  match_all end end bindings = some bindings
  match_all end (v then vs) bindings = none
  match_all (p then ps) end bindings = none
  match_all (p then ps) (v then vs) bindings = elim (match p v bindings) [ none ↦ none | some bindings' ↦ match_all ps vs bindings' ]

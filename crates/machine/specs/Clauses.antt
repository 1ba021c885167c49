-- Clauses. 01: "the first clause whose pattern matches and whose guard gives atom 0".
use Rattle.std.specs.Prelude.{true, false}
use Rattle.std.proofs.Math.Option.{Option, none, some}
use Rattle.term.specs.Tree.{Term, Terms, int, node, end, ◌then◌}
use Rattle.machine.specs.Match.{Bindings, unbound, match}
use Rattle.machine.specs.Bind.{bind}
use Rattle.machine.specs.Guard.{guard_holds}

-- the body under the bindings, if the guard holds under them
unfoldable pub if_holds : Bindings → Term → Term → Option Term
if_holds bindings guard body = elim (guard_holds (bind bindings guard)) [ true ↦ some (bind bindings body) | false ↦ none ]

-- what a clause's children, pattern, guard and body, make of a value
unfoldable pub parts_take : Term → Terms → Option Term
parts_take v end = none
parts_take v (pattern then end) = none
parts_take v (pattern then (guard then end)) = none
parts_take v (pattern then (guard then (body then ts))) = elim (match pattern v unbound) [ none ↦ none | some bindings ↦ if_holds bindings guard body ]

unfoldable pub clause_takes : Term → Term → Option Term
clause_takes v (int x) = none
clause_takes v (node tag n k parts) = parts_take v parts

-- the body of the first clause that takes the value, with the values in place
unfoldable pub first_clause : Term → Terms → Option Term
first_clause v end = none
first_clause v (clause then clauses) = elim (clause_takes v clause) [ some body ↦ some body | none ↦ first_clause v clauses ]

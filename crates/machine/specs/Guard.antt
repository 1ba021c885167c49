-- Guards, whose variables have their values already.
use Rattle.std.specs.Prelude.{ℕ, Bool, true, false, eqb}
use Rattle.std.proofs.Math.Option.{Option, none, some}
use Rattle.term.specs.Words.{tag_call}
use Rattle.term.specs.Tree.{Term, Terms, int, node, end, ◌then◌}
use Rattle.machine.specs.Value.{is_value, same_term, truth}
use Rattle.machine.specs.Operator.{operate_on}

-- what a call gives: its operator on the values that its children give; none where it is stuck
unfoldable pub operate_some : ℕ → Option Terms → Option Term
operate_some op none = none
operate_some op (some ts) = operate_on op ts

unfoldable pub before_some : Option Term → Option Terms → Option Terms
before_some none others = none
before_some (some t) none = none
before_some (some t) (some ts) = some (t then ts)

-- what a guard gives: a value itself, a call its operator's result; none where it is stuck
unfoldable mutual
  pub guard_gives : Term → Option Term
  guard_gives (int x) = some (int x)
  guard_gives (node tag n k ts) = elim (is_value (node tag n k ts)) [
    | true ↦ some (node tag n k ts)
    | false ↦ elim (eqb tag tag_call) [ true ↦ operate_some k (guards_give ts) | false ↦ none ]
  ]

  pub guards_give : Terms → Option Terms
  guards_give end = some end
  guards_give (t then ts) = before_some (guard_gives t) (guards_give ts)

-- "whose guard gives atom 0; a guard that is stuck counts as false"
unfoldable pub guard_holds : Term → Bool
guard_holds guard = elim (guard_gives guard) [ none ↦ false | some v ↦ same_term v (truth true) ]

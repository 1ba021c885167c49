-- `checks::binding::keeps_rule` meets its contract.
use borrow.Author.Rules.{rules}
use native.Mathlib.Omega.{arith}
use Rattle.checks.proofs.MarkLaws.{rules_named, check_out, check_free, check_new, variable_out, variable_in, let_out, let_in, rules_other}
use Rattle.checks.proofs.binding.keeps_rule.Goals as goal
use Rattle.checks.proofs.binding.keeps_rule.Goals.{then-unique, else-unique}

pub returns-in-9 : goal.returns-in-9
returns-in-9 c = rules_named _ _ _ _ _ _ c.tag.ensures _ c.k-v.ensures c.in-9.is _ c.n.ensures _ c.named.ensures

pub returns-after-unique : goal.returns-after-unique
returns-after-unique c =
    elim c.if-unique.branch [
      | then-unique w ↦ rw w.result-is (check_new _ _ _ _ _ _ c.tag.ensures _ c.k-v.ensures c.in-16.is c.if-v-lt-CHECK_NUMBERS.true w.if-unique.true)
      | else-unique w ↦ rw w.result-is (check_free _ _ _ _ _ _ c.tag.ensures _ c.k-v.ensures c.in-16.is w.if-unique.false)
    ]

pub returns-else-v-lt-CHECK_NUMBERS : goal.returns-else-v-lt-CHECK_NUMBERS
returns-else-v-lt-CHECK_NUMBERS c = search check_out

pub returns-then-v-lt-VARIABLES : goal.returns-then-v-lt-VARIABLES
returns-then-v-lt-VARIABLES c = search variable_in

pub returns-else-v-lt-VARIABLES : goal.returns-else-v-lt-VARIABLES
returns-else-v-lt-VARIABLES c = search variable_out

pub returns-then-v-lt-VARIABLES-2 : goal.returns-then-v-lt-VARIABLES-2
returns-then-v-lt-VARIABLES-2 c = search let_in

pub returns-else-v-lt-VARIABLES-2 : goal.returns-else-v-lt-VARIABLES-2
returns-else-v-lt-VARIABLES-2 c = search let_out

pub returns-in_default : goal.returns-in_default
returns-in_default c = rules_other _ _ _ _ _ _ c.tag.ensures _ c.k-v.ensures (search rules) (omega arith) (omega arith) (omega arith)

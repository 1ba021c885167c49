-- `checks::binding::bind` meets its contract.
use Rattle.checks.proofs.BindLaws.{bind_none, bind_past, bind_short, bind_integer, bind_node, bind_out, bind_again, bind_new}
use Rattle.checks.proofs.binding.+bind.Goals as goal
use Rattle.checks.proofs.binding.+bind.Goals.{then-row-at-via-then-row-at, then-row-at-via-else-row-at+then-row-at-2, then-v-ge-VARIABLES-via-then-v-ge-VARIABLES, then-v-ge-VARIABLES-via-else-v-ge-VARIABLES+then-scope-v}

pub returns-then-owed-eq0 : goal.returns-then-owed-eq0
returns-then-owed-eq0 t c = search bind_none

pub returns-then-row-at : goal.returns-then-row-at
returns-then-row-at t c =
    elim c.then-row-at.branch [
      | then-row-at-via-then-row-at w ↦ search bind_past
      | then-row-at-via-else-row-at+then-row-at-2 w ↦ search bind_short
    ]

pub returns-in-3 : goal.returns-in-3
returns-in-3 t c = search bind_integer

pub returns-in_default : goal.returns-in_default
returns-in_default t c = search bind_node

pub returns-then-v-ge-VARIABLES : goal.returns-then-v-ge-VARIABLES
returns-then-v-ge-VARIABLES t c =
    elim c.then-v-ge-VARIABLES.branch [
      | then-v-ge-VARIABLES-via-then-v-ge-VARIABLES w ↦ search bind_out
      | then-v-ge-VARIABLES-via-else-v-ge-VARIABLES+then-scope-v w ↦ search bind_again
    ]

pub returns-else-scope-v : goal.returns-else-scope-v
returns-else-scope-v t c = search bind_new

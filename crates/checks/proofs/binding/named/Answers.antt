-- `checks::binding::named` meets its contract.
use Rattle.checks.proofs.MarkLaws.{no_function, some_function}
use Rattle.checks.proofs.binding.named.Goals as goal

pub returns-then-function-arities : goal.returns-then-function-arities
returns-then-function-arities c = search some_function

pub returns-else-function-arities : goal.returns-else-function-arities
returns-else-function-arities c = search no_function

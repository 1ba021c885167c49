-- `checks::binding::with` meets its contract.
use Rattle.checks.proofs.MarkLaws.{mark_more, mark_out}
use Rattle.checks.proofs.binding.with.Goals as goal

pub returns-then-v-lt-VARIABLES : goal.returns-then-v-lt-VARIABLES
returns-then-v-lt-VARIABLES c = search mark_more

pub returns-else-v-lt-VARIABLES : goal.returns-else-v-lt-VARIABLES
returns-else-v-lt-VARIABLES c = search mark_out

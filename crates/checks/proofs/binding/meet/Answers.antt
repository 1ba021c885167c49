-- `checks::binding::meet` meets its contract.
use Rattle.checks.proofs.MarkLaws.{meet_one, meet_out, meet_none}
use Rattle.checks.proofs.binding.meet.Goals as goal

pub returns-then-v-lt-CHECK_NUMBERS : goal.returns-then-v-lt-CHECK_NUMBERS
returns-then-v-lt-CHECK_NUMBERS c = search meet_one

pub returns-else-v-lt-CHECK_NUMBERS : goal.returns-else-v-lt-CHECK_NUMBERS
returns-else-v-lt-CHECK_NUMBERS c = search meet_out

pub returns-else-tag-eq-CHECK : goal.returns-else-tag-eq-CHECK
returns-else-tag-eq-CHECK c = search meet_none

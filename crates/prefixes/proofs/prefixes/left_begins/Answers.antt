-- `left_begins` meets its contract.
use Rattle.prefixes.proofs.PrefixLaws.{left_outside, left_within, left_breaks, left_rest}
use Rattle.prefixes.proofs.prefixes.left_begins.Goals as goal

pub returns-then-before-taken : goal.returns-then-before-taken
returns-then-before-taken c = search left_outside

pub slice_bounds-begins-count-then-begins : goal.slice_bounds-begins-count-then-begins
slice_bounds-begins-count-then-begins c = search left_within

pub slice_bounds-begins-start-then-begins : goal.slice_bounds-begins-start-then-begins
slice_bounds-begins-start-then-begins c = search left_within

pub returns-then-begins : goal.returns-then-begins
returns-then-begins c = search left_rest

pub returns-else-begins : goal.returns-else-begins
returns-else-begins c = search left_breaks

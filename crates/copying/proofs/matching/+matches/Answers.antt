-- `matches` meets its contract.
use lib.ListN.{length-set}
use mathlib.Core.Path.{◌∙◌}
use Rattle.copying.proofs.RowMatch.{match_none, match_past, match_past_value, match_high, match_var, match_differ, match_cut, match_cut_value, match_integers_differ, match_integers, match_nodes}
use Rattle.copying.proofs.matching.+matches.Goals as goal
use Rattle.copying.proofs.matching.+matches.Goals.{then-p-pa-via-then-p-pa, then-p-pa-via-else-p-pa+then-v-va, then-p-pa-lt2-via-then-p-pa-lt2, then-p-pa-lt2-via-else-p-pa-lt2+then-v-va-lt2, then-p-pa-lt2-via-else-p-pa-lt2+else-v-va-lt2+then-p-pa-2}

pub returns-then-pending-eq0 : goal.returns-then-pending-eq0
returns-then-pending-eq0 t c = search match_none

pub returns-then-p-pa : goal.returns-then-p-pa
returns-then-p-pa t c =
    elim c.then-p-pa.branch [
      | then-p-pa-via-then-p-pa w ↦ search match_past
      | then-p-pa-via-else-p-pa+then-v-va w ↦ search match_past_value
    ]

pub returns-then-env-x : goal.returns-then-env-x
returns-then-env-x t c = search match_high

pub shape_of-env-then-tag-eq-VARIABLE : goal.shape_of-env-then-tag-eq-VARIABLE
shape_of-env-then-tag-eq-VARIABLE t c = c.matches.auto.env ∙ simp length-set

pub returns-then-tag-eq-VARIABLE : goal.returns-then-tag-eq-VARIABLE
returns-then-tag-eq-VARIABLE t c = search match_var

pub returns-then-w-v : goal.returns-then-w-v
returns-then-w-v t c = search match_differ

pub returns-then-p-pa-lt2 : goal.returns-then-p-pa-lt2
returns-then-p-pa-lt2 t c =
    elim c.then-p-pa-lt2.branch [
      | then-p-pa-lt2-via-then-p-pa-lt2 w ↦ search match_cut
      | then-p-pa-lt2-via-else-p-pa-lt2+then-v-va-lt2 w ↦ search match_cut_value
      | then-p-pa-lt2-via-else-p-pa-lt2+else-v-va-lt2+then-p-pa-2 w ↦ search match_integers_differ
    ]

pub returns-then-tag-eq-INTEGER : goal.returns-then-tag-eq-INTEGER
returns-then-tag-eq-INTEGER t c = search match_integers

pub returns : goal.returns
returns t c = search match_nodes

-- `shape::shape::common` meets its contract.
use native.Mathlib.Omega.{arith}
use Rattle.shape.proofs.AlikeLaws.{common_in_value, common_low}
use Rattle.shape.proofs.shape.common.Goals as goal
use Rattle.shape.proofs.shape.common.Goals.{in-5-1, in_default+else-spot-lt1+then-spot-lt3}

pub returns-in-1 : goal.returns-in-1
returns-in-1 c =
    elim c.in-1-1.branch [
      | in-5-1 w ↦ common_in_value _ _ _ c.value_word.ensures (omega arith)
      | in_default+else-spot-lt1+then-spot-lt3 w ↦ common_low _ _ _ c.value_word.ensures (omega arith) (omega arith)
    ]

-- `shape::shape::own_spot` meets its contract.
use Rattle.shape.proofs.SpotLaws.{own_other, own_call, own_value}
use Rattle.shape.proofs.shape.own_spot.Goals as goal
use Rattle.shape.proofs.shape.own_spot.Goals.{else-spot-eq-GUARD-via-then-spot-eq-GUARD+else-tag-ne-CALL, else-spot-eq-GUARD-via-else-spot-eq-GUARD}

pub returns-then-tag-ne-CALL : goal.returns-then-tag-ne-CALL
returns-then-tag-ne-CALL c = search own_value

pub returns-else-spot-eq-GUARD : goal.returns-else-spot-eq-GUARD
returns-else-spot-eq-GUARD c =
    elim c.else-spot-eq-GUARD.branch [
      | else-spot-eq-GUARD-via-then-spot-eq-GUARD+else-tag-ne-CALL w ↦ search own_call
      | else-spot-eq-GUARD-via-else-spot-eq-GUARD w ↦ search own_other
    ]

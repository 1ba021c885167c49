-- `child_row` meets its contract.
use Rattle.making.proofs.NextRows.{child_row_is}
use Rattle.reading.proofs.StateReads.{lives_place}
use Rattle.making.proofs.Living.{control_short}
use Rattle.making.proofs.next.child_row.Goals as goal

pub control-requires : goal.control-requires
control-requires c = search lives_place

pub child-requires : goal.child-requires
child-requires c = search control_short

pub returns : goal.returns
returns c = search child_row_is

-- `send_row` meets its contract.
use Rattle.making.proofs.NextRows.{send_row_is}
use Rattle.reading.proofs.StateReads.{lives_place}
use Rattle.making.proofs.Living.{control_short}
use Rattle.making.proofs.next.send_row.Goals as goal

pub control-requires : goal.control-requires
control-requires c = search lives_place

pub send_next-requires : goal.send_next-requires
send_next-requires c = search control_short

pub returns : goal.returns
returns c = search send_row_is

-- `taken_row` meets its contract.
use Rattle.making.proofs.Mailing.{taken_row_is, content_short}
use Rattle.reading.proofs.StateReads.{lives_place}
use Rattle.making.proofs.Living.{control_short}
use Rattle.making.proofs.picking.taken_row.Goals as goal

pub control-requires : goal.control-requires
control-requires c = search lives_place

pub taken-requires : goal.taken-requires
taken-requires c = search (control_short, content_short)

pub returns : goal.returns
returns c = search taken_row_is

-- `seq_row` meets its contract.
use Rattle.making.proofs.NextRows.{seq_row_is}
use Rattle.reading.proofs.StateReads.{lives_place}
use Rattle.making.proofs.Living.{program_short, control_short}
use Rattle.making.proofs.next.seq_row.Goals as goal

pub control-requires : goal.control-requires
control-requires c = search lives_place

pub seq_next-requires : goal.seq_next-requires
seq_next-requires c = search (control_short, program_short)

pub returns : goal.returns
returns c = search seq_row_is

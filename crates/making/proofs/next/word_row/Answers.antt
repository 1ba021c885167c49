-- `word_row` meets its contract.
use Rattle.making.proofs.NextRows.{word_row_is}
use Rattle.reading.proofs.StateReads.{lives_place}
use Rattle.making.proofs.Living.{control_short}
use Rattle.making.proofs.next.word_row.Goals as goal

pub control-requires : goal.control-requires
control-requires c = search lives_place

pub word_next-requires : goal.word_next-requires
word_next-requires c = search control_short

pub returns : goal.returns
returns c = search word_row_is

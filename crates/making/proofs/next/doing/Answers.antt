-- `doing` meets its contract.
use Rattle.making.proofs.NextRows.{doing_is}
use Rattle.reading.proofs.StateReads.{lives_place}
use Rattle.making.proofs.Living.{control_short}
use Rattle.making.proofs.next.doing.Goals as goal

pub control-requires : goal.control-requires
control-requires c = search lives_place

pub about_to-requires : goal.about_to-requires
about_to-requires c = search control_short

pub returns : goal.returns
returns c = doing_is _ _ _ c.requires.1 c.control.ensures _ c.about_to.ensures

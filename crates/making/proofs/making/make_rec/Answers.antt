-- `make_rec` meets its contract.
use mathlib.Core.Path.{sym}
use lib.Seq.{length-take-le}
use Rattle.making.proofs.Made.{rec_done, grow_ready, rec_full}
use Rattle.making.proofs.making.make_rec.Goals as goal

pub slice_bounds-receive-end : goal.slice_bounds-receive-end
slice_bounds-receive-end c = sym (length-take-le _ _ c.requires.3)

pub receive-requires : goal.receive-requires
receive-requires c = search grow_ready

pub returns-then-has_room : goal.returns-then-has_room
returns-then-has_room c = search rec_done

pub returns : goal.returns
returns c = search rec_full

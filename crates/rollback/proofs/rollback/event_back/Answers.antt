-- `rollback::rollback::event_back` meets its contract.
use Rattle.std.proofs.Common.{sym}
use Rattle.rollback.proofs.RollbackCalls.{first_long, event_fewer, event_room, event_few, event_on, event_long, event_most, event_line, event_ready, event_back_lem}
use Rattle.rollback.proofs.rollback.event_back.Goals as goal

pub slice_bounds-settled-end : goal.slice_bounds-settled-end
slice_bounds-settled-end c = let p = c.requires in sym (first_long _ _ (event_fewer _ _ _ _ _ _ p.0 p.1 p.2 p.3))

pub settled-cut-requires : goal.settled-cut-requires
settled-cut-requires c =
    let p = c.requires in
    (event_few _ _ _ _ _ _ p.0 p.1 p.2 p.3, event_on _ _ _ _ _ _ p.0 p.1 p.2 p.3, event_line _ _ _ _ _ _ p.0 p.1 p.2 p.3, event_long _ _ _ _ _ _ p.0 p.1 p.2 p.3)

pub undo_to-requires : goal.undo_to-requires
undo_to-requires c =
    let p = c.requires in
    (p.0, event_room _ _ _ _ _ _ p.0 p.1 p.2 p.3, event_most _ _ _ _ _ _ p.0 p.1 p.2 p.3, event_ready _ _ _ _ _ _ p.0 p.1 p.2 p.3 _ c.settled-cut.ensures)

pub returns : goal.returns
returns c = let p = c.requires in event_back_lem _ _ _ _ _ _ p.0 p.1 p.2 p.3 _ _ _ c.settled-cut.ensures c.undo_to.ensures

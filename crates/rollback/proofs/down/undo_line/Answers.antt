-- `rollback::down::undo_line` meets its contract.
use Rattle.rollback.proofs.LinkDown.{even_can, odd_can, even_leads, odd_leads}
use Rattle.rollback.proofs.down.undo_line.Goals as goal

pub undo-requires : goal.undo-requires
undo-requires c = search even_can

pub unpost-requires : goal.unpost-requires
unpost-requires c = search odd_can

pub returns-then-has_entries : goal.returns-then-has_entries
returns-then-has_entries c = search even_leads

pub returns-else-has_entries : goal.returns-else-has_entries
returns-else-has_entries c = search odd_leads

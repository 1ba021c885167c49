-- `unpost` meets its contract.
use Rattle.writing.proofs.SpanLaws.{no_entry}
use Rattle.writing.proofs.PostLaws.{taking_place, unpost_room, unpost_leads}
use Rattle.writing.proofs.posting.unpost.Goals as goal

pub locate-place-requires : goal.locate-place-requires
locate-place-requires c = (c.requires.0, taking_place _ _ c.requires.1, no_entry _)

pub drop_newest-requires : goal.drop_newest-requires
drop_newest-requires c = unpost_room _ _ _ c.locate-place.ensures c.requires.0 c.requires.1

pub returns : goal.returns
returns c = unpost_leads _ _ _ c.locate-place.ensures _ c.requires.1 c.drop_newest.ensures

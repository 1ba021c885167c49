-- `post` meets its contract.
use Rattle.writing.proofs.SpanLaws.{no_entry}
use Rattle.writing.proofs.PostLaws.{posting_place, post_room, post_leads}
use Rattle.writing.proofs.posting.post.Goals as goal

pub locate-place-requires : goal.locate-place-requires
locate-place-requires c = (c.requires.0, posting_place _ _ c.requires.1, no_entry _)

pub push-requires : goal.push-requires
push-requires c = post_room _ _ _ c.locate-place.ensures c.requires.0 c.requires.1

pub returns : goal.returns
returns c = post_leads _ _ _ c.locate-place.ensures c.args.name _ c.requires.1 c.push.ensures

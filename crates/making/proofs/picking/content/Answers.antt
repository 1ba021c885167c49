-- `content` meets its contract.
use Rattle.making.proofs.Mailing.{content_found, content_send, content_nowhere, sender_place}
use Rattle.making.proofs.picking.content.Goals as goal

pub find_send-requires : goal.find_send-requires
find_send-requires c = search sender_place

pub returns-in_default : goal.returns-in_default
returns-in_default c = search content_nowhere

pub value-requires : goal.value-requires
value-requires c = search content_send

pub returns : goal.returns
returns c = search content_found

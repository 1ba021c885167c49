-- `reply` meets its contract.
use Rattle.replies.proofs.LineLaws.{replied}
use Rattle.lines.proofs.lines.reply.Goals as goal

pub returns : goal.returns
returns c = replied _ _ _ _ _ _ _ _ _ c.parse_line-asked.ensures c.perform-a.ensures c.write_reply.ensures.wrote c.write_reply.ensures.short

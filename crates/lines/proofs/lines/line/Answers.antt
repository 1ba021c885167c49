-- `line` meets its contract.
use Rattle.replies.proofs.LineLaws.{asked_line}
use Rattle.lines.proofs.lines.line.Goals as goal

pub returns : goal.returns
returns c = asked_line _ _ _ _ _ c.parse_line.ensures c.perform.ensures

-- `write_number_line` meets its contract.
use Rattle.text.proofs.WritingLaws.{wrote_line}
use Rattle.text.proofs.replies.write_number_line.Goals as goal

pub returns : goal.returns
returns c = search wrote_line

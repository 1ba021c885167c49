-- `write_queue` meets its contract.
use Rattle.text.proofs.WritingLaws.{wrote_line}
use Rattle.rules.specs.Text.{line, bytes}
use Rattle.text.specs.Lines.{queue_line}
use Rattle.text.proofs.listing.write_queue.Goals as goal

pub returns : goal.returns
unfolding queue_line line bytes
returns c = search wrote_line

-- `write_process` meets its contract.
use Rattle.text.proofs.WritingLaws.{wrote_five}
use Rattle.rules.specs.Text.{line, bytes}
use Rattle.text.specs.Lines.{pid_line, history_line, process_text}
use Rattle.text.proofs.listing.write_process.Goals as goal

pub returns : goal.returns
unfolding process_text pid_line history_line line bytes
returns c = search wrote_five

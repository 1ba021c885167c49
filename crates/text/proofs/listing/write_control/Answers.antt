-- `write_control` meets its contract.
use Rattle.text.proofs.WritingLaws.{wrote_line}
use Rattle.rules.specs.Text.{line, bytes}
use Rattle.text.specs.Lines.{words_line}
use Rattle.text.proofs.listing.write_control.Goals as goal

pub returns : goal.returns
unfolding words_line line bytes
returns c = search wrote_line

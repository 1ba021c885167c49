-- `write_newest` meets its contract.
use Rattle.text.proofs.WritingLaws.{wrote_line}
use Rattle.rules.specs.Text.{line, bytes}
use Rattle.text.specs.Lines.{newest_line}
use Rattle.text.proofs.listing.write_newest.Goals as goal

pub returns : goal.returns
unfolding newest_line line bytes
returns c =
    let name = rw c.kind_name.ensures at c.write_bytes-end.ensures in
    wrote_line c.write_bytes-to.ensures name c.write_line_feed.ensures

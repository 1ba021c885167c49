-- `write_name` meets its contract.
use Rattle.text.proofs.SpacedLaws.{wrote_name}
use Rattle.text.proofs.writing.write_name.Goals as goal

pub returns : goal.returns
returns c = search wrote_name

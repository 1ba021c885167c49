-- `write_bytes` meets its contract.
use Rattle.text.proofs.WritingLaws.{wrote_byte_more}
use Rattle.text.proofs.writing.write_bytes.Goals as goal

pub loop-b-preserved : goal.loop-b-preserved
loop-b-preserved c = search wrote_byte_more

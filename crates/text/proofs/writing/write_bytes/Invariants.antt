-- `write_bytes` meets its contract.
use lib.ListN.{take}
use Rattle.text.specs.Written.{Wrote}
use Rattle.text.proofs.writing.write_bytes.Given as goal

abbrev pub invariant-loop-b : goal.invariant-loop-b
invariant-loop-b l = Wrote (take l.b-index l.bytes) l.at l.initial.out l.out l.to

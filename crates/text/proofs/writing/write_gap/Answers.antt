-- `write_gap` meets its contract.
use Rattle.text.proofs.SpacedLaws.{wrote_gap_none, wrote_gap_space}
use borrow.Author.Rules.{rules}
use Rattle.text.proofs.writing.write_gap.Goals as goal

pub returns-then-i-eq0 : goal.returns-then-i-eq0
returns-then-i-eq0 c = wrote_gap_none _ (search rules) (search rules) (search rules)

pub returns : goal.returns
returns c = search wrote_gap_space

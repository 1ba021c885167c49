-- `keep` meets its contract.
use Rattle.lines.proofs.GatherLaws.{kept_full, kept_more}
use borrow.Author.Rules.{rules}
use Rattle.lines.proofs.input.keep.Goals as goal

pub returns-then-line-count : goal.returns-then-line-count
returns-then-line-count c = kept_full _ _ _ (search rules)

pub returns : goal.returns
returns c = kept_more _ _ _ (search rules)

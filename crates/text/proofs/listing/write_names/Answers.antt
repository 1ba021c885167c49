-- `write_names` meets its contract.
use borrow.Author.Rules.{rules}
use Rattle.rules.specs.Text.{spaced}
use Rattle.text.proofs.WritingLaws.{wrote_none}
use Rattle.text.proofs.SpacedLaws.{wrote_name_more}
use Rattle.text.proofs.listing.write_names.Goals as goal

pub loop-i-init : goal.loop-i-init
unfolding spaced
loop-i-init c = wrote_none _ _ _ (search rules) (search rules)

pub loop-i-preserved : goal.loop-i-preserved
loop-i-preserved c = search wrote_name_more

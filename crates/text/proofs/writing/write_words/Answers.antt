-- `write_words` meets its contract.
use Rattle.text.proofs.WritingLaws.{wrote_none}
use Rattle.text.proofs.SpacedLaws.{wrote_word_more}
use borrow.Author.Rules.{rules}
use Rattle.rules.specs.Text.{spaced}
use Rattle.text.proofs.writing.write_words.Goals as goal

pub loop-i-init : goal.loop-i-init
unfolding spaced
loop-i-init c = wrote_none _ _ _ (search rules) (search rules)

pub loop-i-preserved : goal.loop-i-preserved
loop-i-preserved c = search wrote_word_more

-- `write_answer` meets its contract.
use Rattle.rules.specs.Replies.{answer_line}
use Rattle.rules.specs.Text.{line, bytes}
use borrow.Author.Rules.{rules}
use Rattle.text.proofs.replies.write_answer.Goals as goal

pub returns : goal.returns
unfolding answer_line line bytes
returns c = search rules

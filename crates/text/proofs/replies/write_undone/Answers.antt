-- `write_undone` meets its contract.
use Rattle.rules.specs.Replies.{undone_line}
use Rattle.rules.specs.Text.{line, bytes}
use borrow.Author.Rules.{rules}
use Rattle.text.proofs.replies.write_undone.Goals as goal

pub returns : goal.returns
unfolding undone_line line bytes
returns c = search rules

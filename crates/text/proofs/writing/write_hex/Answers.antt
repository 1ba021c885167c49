-- `write_hex` meets its contract.
use Rattle.rules.specs.Text.{hex}
use borrow.Author.Rules.{rules}
use Rattle.text.proofs.writing.write_hex.Goals as goal

pub returns : goal.returns
unfolding hex
returns c = search rules

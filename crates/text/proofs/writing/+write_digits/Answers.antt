-- `write_digits` meets its contract.
use borrow.Author.Rules.{rules}
use Rattle.text.proofs.DigitLaws.{wrote_digits_none, wrote_digits_next}
use Rattle.text.proofs.writing.+write_digits.Goals as goal

pub returns-then-digits-eq0 : goal.returns-then-digits-eq0
returns-then-digits-eq0 t c = wrote_digits_none _ _ (search rules) (search rules) (search rules)

pub returns : goal.returns
returns t c = search wrote_digits_next

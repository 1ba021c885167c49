-- `read_digits` meets its contract.
use borrow.Author.Rules.{rules}
use Rattle.parsing.proofs.NumberLaws.{digits_not, digits_more, digits_large, digits_all}
use Rattle.parsing.proofs.parsing.read_digits.Goals as goal

pub returns-then-not-is_ascii_digit : goal.returns-then-not-is_ascii_digit
returns-then-not-is_ascii_digit c = search (digits_not, c.if-not-is_ascii_digit.ensures.cases)

pub returns-then-n-gt-MOST : goal.returns-then-n-gt-MOST
returns-then-n-gt-MOST c = search (digits_large, c.if-not-is_ascii_digit.ensures.cases)

pub loop-b-preserved : goal.loop-b-preserved
loop-b-preserved c = (search rules, search (digits_more, c.if-not-is_ascii_digit.ensures.cases))

pub returns : goal.returns
returns c = search digits_all

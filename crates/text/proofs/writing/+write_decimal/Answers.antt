-- `write_decimal` meets its contract.
use Rattle.text.proofs.DigitLaws.{wrote_decimal_last, wrote_decimal_next}
use Rattle.text.proofs.writing.+write_decimal.Goals as goal

pub returns-then-n-lt10 : goal.returns-then-n-lt10
returns-then-n-lt10 t c = search wrote_decimal_last

pub returns : goal.returns
returns t c = search wrote_decimal_next

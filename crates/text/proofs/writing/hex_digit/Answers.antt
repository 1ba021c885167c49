-- `hex_digit` meets its contract.
use Rattle.text.proofs.DigitLaws.{hex_below_ten, hex_from_ten}
use Rattle.text.proofs.writing.hex_digit.Goals as goal

pub returns-then-d-lt10 : goal.returns-then-d-lt10
returns-then-d-lt10 c = search hex_below_ten

pub returns : goal.returns
returns c = search hex_from_ten

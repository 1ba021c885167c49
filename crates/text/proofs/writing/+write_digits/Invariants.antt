-- `write_digits` meets its contract.
use Rattle.text.proofs.writing.+write_digits.Given as goal

abbrev pub decreases-write_digits : goal.decreases-write_digits
decreases-write_digits l = l.digits

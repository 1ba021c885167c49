-- `write_decimal` meets its contract.
use Rattle.text.proofs.writing.+write_decimal.Given as goal

abbrev pub decreases-write_decimal : goal.decreases-write_decimal
decreases-write_decimal l = l.n

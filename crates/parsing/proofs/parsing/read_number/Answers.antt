-- `read_number` meets its contract.
use Prim.Native.Nat.{◌<◌}
use mathlib.Core.Path.{sym}
use native.Mathlib.Omega.{arith}
use lib.ListN.{length}
use Rattle.lists.proofs.Tests.{eqb-true, eqb-false}
use Rattle.parsing.proofs.NumberLaws.{number_none, number_single, number_zero, number_other}
use Rattle.parsing.proofs.parsing.read_number.Goals as goal

pub returns-then-is_empty : goal.returns-then-is_empty
returns-then-is_empty c = number_none _ (eqb-true _ _ (sym c.if-is_empty.ensures))

pub returns-then-text-eq1 : goal.returns-then-text-eq1
returns-then-text-eq1 c = number_single _ _ (eqb-false _ _ (sym c.if-is_empty.ensures)) (omega arith) c.read_digits.ensures

pub returns-then-text-eq-DIGIT_ZERO : goal.returns-then-text-eq-DIGIT_ZERO
returns-then-text-eq-DIGIT_ZERO c = let some = eqb-false _ _ (sym c.if-is_empty.ensures) in number_zero _ (omega arith) c.if-text-eq-DIGIT_ZERO.true

pub returns : goal.returns
returns c =
    let some = eqb-false _ _ (sym c.if-is_empty.ensures) in
    let more : 1 < length c.args.text.now = omega arith in
    search (number_other, more)

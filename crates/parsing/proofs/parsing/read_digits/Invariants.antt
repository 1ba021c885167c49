-- `read_digits` meets its contract.
use Rattle.rules.specs.Line.{of_byte, digits_say}
use lib.ListN.{drop}
use Prim.Native.Nat.{◌≤◌}
use mathlib.Core.Path.{◌≡◌}
use Rattle.parsing.proofs.parsing.read_digits.Given as goal

abbrev pub invariant-loop-b : goal.invariant-loop-b
invariant-loop-b l = (l.n ≤ 255) × (of_byte (digits_say l.n (drop l.b-index l.text)) ≡ of_byte (digits_say 0 l.text))

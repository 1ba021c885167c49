-- What the answers of the code say, in the terms of the definitions.
use Rattle.std.specs.Prelude.{ℤ, Option, Some, None}
use Rattle.std.proofs.Math.Option.{Option as Maybe, none, some}
use Rattle.term.specs.Tree.{Term, int}
use Rattle.machine.specs.Operator.{unsigned}

-- an operator's result on integers
abbrev pub number : Option ℤ → Maybe Term
number (Some z) = some (int (unsigned z))
number None = none

-- `rows::functions::function_start` meets its contract.
use Prim.Native.Nat.{◌-◌}
use mathlib.Core.Path.{◌≡◌}
use Rattle.term.specs.Places.{start_from}
use Rattle.rows.proofs.functions.function_start.Given as goal

abbrev pub invariant-loop : goal.invariant-loop
invariant-loop l = start_from l.row 0 l.number ≡ start_from l.row l.at (l.number - l.counter)

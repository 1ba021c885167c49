-- `all_born` meets its contract.
use Prim.Native.Nat.{ℕ, ◌<◌}
use mathlib.Core.Path.{◌≡◌}
use mathlib.Core.Bool.{true, false}
use lib.ListN.{get_or}
use Rattle.slots.proofs.sound_births.all_born.Given as goal

abbrev pub invariant-loop-q : goal.invariant-loop-q
invariant-loop-q l =
    (k : ℕ) → 0 < k → k < l.q → get_or l.live k false ≡ true → get_or l.born k false ≡ true

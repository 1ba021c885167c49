-- `entry_count` meets its contract.
use Rattle.reading.specs.Reads.{OfState}
use Rattle.rules.specs.State.{history_at}
use lib.ListN.{length}
use Prim.Native.Nat.{◌≤◌}
use Rattle.reading.proofs.state.entry_count.Given as goal

abbrev pub invariant-loop-i : goal.invariant-loop-i
invariant-loop-i l = OfState l.store (λ s. l.i ≤ length (history_at s l.p))

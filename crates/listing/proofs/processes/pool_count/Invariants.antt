-- `pool_count` meets its contract.
use mathlib.Core.Path.{◌≡◌}
use Prim.Native.Nat.{◌≤◌}
use lib.ListN.{length}
use Rattle.lists.specs.Lists.{keep, up_to}
use Rattle.rules.specs.State.{in_pool}
use Rattle.reading.specs.Reads.{OfState}
use Rattle.listing.proofs.processes.pool_count.Given as goal

abbrev pub invariant-loop-p : goal.invariant-loop-p
invariant-loop-p l = (l.count ≤ l.p) × OfState l.store (λ s. l.count ≡ length (keep (in_pool s) (up_to l.p)))

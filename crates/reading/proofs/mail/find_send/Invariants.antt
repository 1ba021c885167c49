-- `find_send` meets its contract.
use Rattle.rules.specs.Flight.{sends}
use Rattle.reading.specs.Reads.{OfState, oldest}
use Rattle.rules.specs.State.{history_at}
use mathlib.Core.Path.{◌≡◌}
use Prim.Native.Nat.{◌+◌}
use Rattle.reading.proofs.mail.find_send.Given as goal

abbrev pub invariant-loop-i : goal.invariant-loop-i
invariant-loop-i l = OfState l.store (λ s. l.count ≡ l.left + sends (oldest l.i (history_at s l.p)))

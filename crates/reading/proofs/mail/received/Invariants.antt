-- `received` meets its contract.
use Rattle.lists.specs.Lists.{any}
use Rattle.rules.specs.Flight.{taken}
use Rattle.reading.specs.Reads.{OfState, oldest}
use Rattle.rules.specs.State.{history_at}
use mathlib.Core.Bool.{false}
use mathlib.Core.Path.{◌≡◌}
use Rattle.reading.proofs.MailReads.{by_name}
use Rattle.reading.proofs.mail.received.Given as goal

abbrev pub invariant-loop-i : goal.invariant-loop-i
invariant-loop-i l = OfState l.store (λ s. any (by_name l.name) (taken (oldest l.i (history_at s l.t))) ≡ false)

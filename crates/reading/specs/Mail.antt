-- Messages in flight, entry by entry.
use Rattle.std.specs.Prelude.{ℕ, Bool, false}
use Rattle.std.proofs.Math.Option.{Option, none, some}
use Rattle.rules.specs.State.{Letter, State, history_at}
use Rattle.rules.specs.Flight.{sends, flies_to}
use Rattle.reading.specs.Reads.{oldest}

-- entry i of s, which sent this letter if any, is a send whose message is in flight to q
unfoldable pub flies_by : State → (q s i : ℕ) → Option Letter → Bool
flies_by st q s i none = false
flies_by st q s i (some l) = flies_to st q s (sends (oldest i (history_at st s)))

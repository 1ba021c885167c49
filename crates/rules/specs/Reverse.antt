-- The command that reverses an accepted one: it undoes the step just taken, or retakes the step just undone, by its own command. And
-- which commands go forward, and how much is done at a state.
use Rattle.std.specs.Prelude.{ℕ, zero, suc, ◌+◌, Bool, true, false, List, [], ◌∷◌, length}
use Rattle.std.proofs.Math.Option.{Option, none, some}
use Rattle.rules.specs.State.{Message, Letter, letter, Entry, State, history_at}
use Rattle.rules.specs.Flight.{sent, taken}
use Rattle.rules.specs.Commands.{Command, step, spawn_into, deliver, back, undeliver}
use Rattle.rules.specs.Rules.{making_of}

-- Each takes the command that is refused, for a state where there is nothing to reverse.
-- a delivery is undone at its target
unfoldable pub undeliver_of : Command → Option Letter → Command
undeliver_of refused none = refused
undeliver_of refused (some (letter t value)) = undeliver t

-- the newest entry, undone, is made again by its own command
unfoldable pub retake : ℕ → Command → List Entry → Command
retake p refused [] = refused
retake p refused (e ∷ older) = making_of p e.kind

-- the newest message of a queue, undelivered, is delivered again
unfoldable pub redeliver : Command → List Message → Command
redeliver refused [] = refused
redeliver refused (m ∷ queue) = redeliver (deliver m.sender m.count) queue

unfoldable pub reverse : State → Command → Command
reverse s (step p) = back p
reverse s (spawn_into p f) = back p
reverse s (deliver sender k) = undeliver_of (deliver sender k) (sent (history_at s sender) k)
reverse s (back p) = retake p (back p) (history_at s p)
reverse s (undeliver p) = redeliver (undeliver p) (s.queues p)

unfoldable pub is_forward : Command → Bool
is_forward (step p) = true
is_forward (spawn_into p f) = true
is_forward (deliver sender k) = true
is_forward (back p) = false
is_forward (undeliver p) = false

-- the entries of a process, and the messages delivered to it: those in its queue and those that its recs took
unfoldable pub done_at : State → ℕ → ℕ
done_at s p = length (history_at s p) + (length (s.queues p) + length (taken (history_at s p)))

unfoldable pub total : (ℕ → ℕ) → ℕ → ℕ
total f zero = 0
total f (suc n) = total f n + f n

-- entries and delivered messages of all places
unfoldable pub amount_done : State → ℕ
amount_done s = total (done_at s) s.sizes.places

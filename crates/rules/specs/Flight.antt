-- Sends, what recs took and left, and the messages in flight.
use Rattle.std.specs.Prelude.{ℕ, suc, Bool, false, cond, not, ◌&&◌, ◌||◌, List, [], ◌∷◌, ◌++◌, map, eqb}
use Rattle.std.proofs.Math.Option.{Option, none, some}
use Rattle.lists.specs.Lists.{any, keep, up_to, joined}
use Rattle.rules.specs.State.{Message, Letter, letter, Taking, taking, as_send, as_rec, Entry, State, history_at, in_pool, is_named}

-- how many sends stand in a history
unfoldable pub count_letter : Option Letter → ℕ → ℕ
count_letter none n = n
count_letter (some l) n = suc n

unfoldable pub sends : List Entry → ℕ
sends [] = 0
sends (e ∷ h) = count_letter (as_send e.kind) (sends h)

-- what the k-th send of a history sent, counted from 0 and the oldest; n is the count of older sends
unfoldable pub letter_or : Option Letter → (n k : ℕ) → Option Letter → Option Letter
letter_or none n k older = older
letter_or (some l) n k older = cond (eqb n k) (some l) older

unfoldable pub sent : List Entry → ℕ → Option Letter
sent [] k = none
sent (e ∷ h) k = letter_or (as_send e.kind) (sends h) k (sent h k)

-- the messages that the recs of a history took, newest first
unfoldable pub also_taken : Option Taking → List Message → List Message
also_taken none older = older
also_taken (some (taking ahead m behind)) older = m ∷ older

unfoldable pub taken : List Entry → List Message
taken [] = []
taken (e ∷ h) = also_taken (as_rec e.kind) (taken h)

-- the queue that the newest rec of a history left (no rec: the empty queue)
unfoldable pub left_or : Option Taking → List Message → List Message
left_or none older = older
left_or (some (taking ahead m behind)) older = ahead ++ behind

unfoldable pub left : List Entry → List Message
left [] = []
left (e ∷ h) = left_or (as_rec e.kind) (left h)

-- message s.k has come to t: it stands in t's queue or among the messages that t's recs took
unfoldable pub has_come : State → (s k t : ℕ) → Bool
has_come st s k t = any (is_named s k) (st.queues t) || any (is_named s k) (taken (history_at st t))

-- a message sent to t, which is in the pool, is in flight until it has come
unfoldable pub flies : State → (s k t : ℕ) → Bool
flies st s k t = in_pool st t && not (has_come st s k t)

unfoldable pub is_flying : State → (s k : ℕ) → Bool
is_flying st s k = elim (sent (history_at st s) k) [ none ↦ false | some (letter t v) ↦ flies st s k t ]

-- message s.k is in flight to q
unfoldable pub flies_to : State → (q s k : ℕ) → Bool
flies_to st q s k = elim (sent (history_at st s) k) [ none ↦ false | some (letter t v) ↦ eqb t q && flies st s k t ]

-- something is in flight to q
unfoldable pub awaited : State → ℕ → Bool
awaited st q = any (λ s. any (flies_to st q s) (up_to (sends (history_at st s)))) (up_to st.sizes.places)

-- a message's name
pub data Name : Type 0 where
  name : (sender count : ℕ) → Name

-- the names of all messages in flight, by sender, then count
unfoldable pub flight_of : State → ℕ → List Name
flight_of st s = map (λ k. name s k) (keep (is_flying st s) (up_to (sends (history_at st s))))

unfoldable pub flight : State → List Name
flight st = joined (map (flight_of st) (up_to st.sizes.places))

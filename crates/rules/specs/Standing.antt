-- What stands where: an entry in a history, a message among the arrivals at a place, and how many arrivals a rec has seen.
use Rattle.std.specs.Prelude.{ℕ, ◌≡◌, List, [], ◌∷◌, ◌++◌, length, drop}
use Rattle.std.proofs.Math.Option.{Option, none, some}
use Rattle.rules.specs.State.{Message, Taking, taking, as_rec, Entry, State, history_at}
use Rattle.rules.specs.Flight.{left}
use Rattle.rules.specs.Depends.{arrivals}

-- g is a history as it was before its newest entries came, or as it is
pub data Suffix (g : List Entry) : List Entry → Type 0 where
  whole : Suffix g g
  older : {e : Entry} {h : List Entry} → Suffix g h → Suffix g (e ∷ h)

-- entry i of p, with the older ones
pub record Stands (s : State) (p i : ℕ) (e : Entry) (g : List Entry) : Type 0 where
  pub at : Suffix (e ∷ g) (history_at s p)
  pub index : length g ≡ i

-- arrival j at q
pub record Arrives (s : State) (q j : ℕ) (m : Message) : Type 0 where
  pub before : List Message
  pub after : List Message
  pub at : arrivals s q ≡ before ++ (m ∷ after)
  pub index : length before ≡ j

-- Arrivals in closed form: what each queue shows beyond what the rec before it left. In sound states these are `arrivals`.

unfoldable pub shown_or : Option Taking → List Message → List Message → List Message
shown_or none left shown = shown
shown_or (some (taking a m d)) left shown = shown ++ drop (length left) (a ++ (m ∷ d))

-- what the queues before the recs of a history show
unfoldable pub shown : List Entry → List Message
shown [] = []
shown (e ∷ h) = shown_or (as_rec e.kind) (left h) (shown h)

-- and one more queue
unfoldable pub come : List Entry → List Message → List Message
come h queue = shown h ++ drop (length (left h)) queue

-- how many arrivals a rec has seen: it took m, with a before and d after it in the queue, and g are the older entries
abbrev pub seen : List Message → Message → List Message → List Entry → ℕ
seen a m d g = length (come g (a ++ (m ∷ d)))

-- What each public call answers and leaves, for all inputs.
use Rattle.std.specs.Prelude.{ℕ, ◌≡◌, true, false, List, ◌++◌, leb, length, drop}
use Rattle.std.proofs.Math.Option.{Option, none, some}
use Rattle.rules.specs.Answers.{done, not_a_state, no_room, bad_line}
use Rattle.rules.specs.State.{Sizes, State}
use Rattle.rules.specs.Sound.{Sound}
use Rattle.rules.specs.Line.{Request, parse_line}
use Rattle.rules.specs.Listing.{listing}
use Rattle.rules.specs.Replies.{Reply, perform}
use Rattle.store.specs.Layout.{image}
use Rattle.store.specs.Image.{IsImage}
use Rattle.store.specs.Loading.{Outcome, load_into}

-- 01's number, the position, count or length that goes with it, and the words or bytes that are left where the call writes
abbrev pub outcome : (number value : ℕ) → List ℕ → Outcome
outcome number value left = record { number = number; value = value; left = left }

-- A call that looks at a store. Of a store that begins with the image of a sound state it gives what is said of that state and the words
-- past the image; of any other store it gives `otherwise`.
pub record OfStore (entry : List ℕ) (of : State → List ℕ → Outcome) (otherwise : Outcome) (o : Outcome) : Type 0 where
  pub on_image : (s : State) (rest : List ℕ) → Sound s → entry ≡ image s ++ rest → o ≡ of s rest
  pub elsewhere : ¬ IsImage entry → o ≡ otherwise

-- 15, "store isn't the image of a sound state"; what the call could have written is as it was
abbrev pub refused_store : List ℕ → Outcome
refused_store left = outcome not_a_state 0 left

-- "rollback adds the count of events undone"; "Positions and counts are 0 elsewhere."
unfoldable pub count_in : Option ℕ → ℕ
count_in none = 0
count_in (some count) = count

-- an answer on a state, with the image of the state after; words past the image stay
unfoldable pub stored : Reply → List ℕ → Outcome
stored a rest = outcome a.number (count_in a.undone) (image a.after ++ rest)

-- step, spawn, deliver, back and undeliver (`single`), and rollback (`rollback_to`)
unfoldable pub RequestCall : Request → (entry : List ℕ) → Outcome → Type 0
RequestCall request entry o = OfStore entry (λ s rest. stored (perform request s) rest) (refused_store entry) o

-- a text command: 17 before anything is looked at, else as the call that it asks for
unfoldable pub AskedCall : Option Request → (entry : List ℕ) → Outcome → Type 0
AskedCall none entry o = o ≡ outcome bad_line 0 entry
AskedCall (some request) entry o = RequestCall request entry o

unfoldable pub LineCall : (line : List ℕ) → (entry : List ℕ) → Outcome → Type 0
LineCall line entry o = AskedCall (parse_line line) entry o

-- a text written into an output: 16 where it is longer, and the output is as it was; else its length, and "Output bytes past a listing
-- keep their values"
unfoldable pub written : (text out : List ℕ) → Outcome
written text out = elim (leb (length text) (length out)) [
  | true ↦ outcome done (length text) (text ++ drop (length text) out)
  | false ↦ outcome no_room 0 out
]

-- the listing; the store is only read
unfoldable pub ListingCall : (store out : List ℕ) → Outcome → Type 0
ListingCall store out o = OfStore store (λ s rest. written (listing s) out) (refused_store out) o

-- load, for whatever stood in the store
unfoldable pub LoadCall : (module' : List ℕ) → Sizes → (entry : List ℕ) → Outcome → Type 0
LoadCall module' sizes entry o = o ≡ load_into module' sizes entry

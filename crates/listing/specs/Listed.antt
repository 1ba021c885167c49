-- What the parts of the listing's code promise.
use Rattle.std.specs.Prelude.{ℕ, ◌≡◌, Bool, true, false, List, [], ◌∷◌, ◌++◌, map}
use Rattle.std.specs.Int.{from_bool}
use Rattle.lists.specs.Lists.{joined, up_to}
use Rattle.rules.specs.State.{State}
use Rattle.rules.specs.Text.{spaced, line}
use Rattle.rules.specs.Listing.{name_text, flight_text, process_lines}
use Rattle.rules.specs.Flight.{flight_of, flight}
use Rattle.text.specs.Written.{Wrote, gap}
use Rattle.listing.specs.declared.flying.Row.{Row}

-- pieces in a row split by single spaces, which another has begun or not
unfoldable pub follow : (begun : Bool) → List (List ℕ) → List ℕ
follow begun [] = []
follow begun (x ∷ xs) = gap (from_bool begun) ++ x ++ follow true xs

-- whether any stands before the next
unfoldable pub behind : (begun : Bool) → List (List ℕ) → Bool
behind begun [] = begun
behind begun (x ∷ xs) = true

-- pieces were written behind a row
pub record Followed (xs : List (List ℕ)) (from : Row) (old new : List ℕ) (r : Row) : Type 0 where
  pub wrote : Wrote (follow from.begun xs) from.to old new r.to
  pub is_behind : r.begun ≡ behind from.begun xs

-- the text of name s.k, or nothing
unfoldable pub name_if : Bool → (s k : ℕ) → List (List ℕ)
name_if true s k = name_text s k ∷ []
name_if false s k = []

-- the lines of the places below one
unfoldable pub places_text : State → ℕ → List ℕ
places_text s n = joined (map (λ p. process_lines p (s.queues p) (s.processes p)) (up_to n))

-- the texts of the names in flight of the senders below one
unfoldable pub flying_texts : State → ℕ → List (List ℕ)
flying_texts s n = map flight_text (joined (map (flight_of s) (up_to n)))

-- the line of the messages in flight
unfoldable pub flying_line : State → List ℕ
flying_line s = line "flight=" (spaced (map flight_text (flight s)))

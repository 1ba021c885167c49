-- Lists filled up to a length.
use Rattle.std.specs.Prelude.{ℕ, zero, suc, List, [], ◌∷◌}

-- xs, then z up to n elements; of more than n the first n
unfoldable pub fill_to : {A : Type 0} → ℕ → A → List A → List A
fill_to zero z xs = []
fill_to (suc n) z [] = z ∷ fill_to n z []
fill_to (suc n) z (x ∷ xs) = x ∷ fill_to n z xs

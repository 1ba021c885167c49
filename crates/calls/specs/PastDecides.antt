-- Words past the needed length decide nothing, of stores that are no image too. 01: "Words past it are neither read nor written."
-- (`PastIsLeft` of Promises says it of stores that begin with an image.) Shown by `past_decides_nothing` of proofs/PastDecides.
use Rattle.std.specs.Prelude.{ℕ, ◌≡◌, List, ◌++◌, length}
use Rattle.rules.specs.Answers.{not_a_state}
use Rattle.rules.specs.Line.{Request}
use Rattle.store.specs.Layout.{needed}
use Rattle.store.specs.Formed.{sizes_in}
use Rattle.store.specs.Image.{IsImage}
use Rattle.store.specs.Loading.{Outcome}
use Rattle.calls.specs.Calls.{refused_store, RequestCall, LineCall, ListingCall}

-- just the words that the sizes at their front need
abbrev pub Needed : List ℕ → Type 0
Needed l = length l ≡ needed (sizes_in l)

pub record PastDecidesNothing : Type 0 where
  -- whether words are an image is decided by the needed ones
  pub image : (l rest rest' : List ℕ) → Needed l → IsImage (l ++ rest) → IsImage (l ++ rest')
  pub no_image : (l rest rest' : List ℕ) → Needed l → ¬ IsImage (l ++ rest) → ¬ IsImage (l ++ rest')
  -- so a store answered 15 is answered 15 whatever stands past them, and stays
  pub request : (request : Request) (l rest rest' : List ℕ) (o o' : Outcome) → Needed l → RequestCall request (l ++ rest) o → o.number ≡ not_a_state
      → RequestCall request (l ++ rest') o' → o' ≡ refused_store (l ++ rest')
  pub line : (line l rest rest' : List ℕ) (o o' : Outcome) → Needed l → LineCall line (l ++ rest) o → o.number ≡ not_a_state
      → LineCall line (l ++ rest') o' → o' ≡ refused_store (l ++ rest')
  pub listing : (l rest rest' out : List ℕ) (o o' : Outcome) → Needed l → ListingCall (l ++ rest) out o → o.number ≡ not_a_state
      → ListingCall (l ++ rest') out o' → o' ≡ refused_store out

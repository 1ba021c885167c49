-- Words past the needed length decide nothing, of stores that are no image too.
use Prim.Native.Nat.{ℕ, ◌<◌}
use mathlib.Core.Path.{◌≡◌, refl, sym, ◌∙◌, ap}
use mathlib.Core.Option.{Option, none, some}
use mathlib.Core.List.{List, ◌++◌}
use native.Mathlib.Omega.{arith}
use lib.ListN.{length, take, get_or, get_or-append}
use lib.Seq.{take-append_seam}
use Rattle.rules.specs.Answers.{not_a_state, bad_line}
use Rattle.rules.specs.State.{Sizes, State}
use Rattle.rules.specs.Line.{Request, parse_line}
use Rattle.rules.specs.Listing.{listing}
use Rattle.store.specs.Layout.{needed, image}
use Rattle.store.specs.Formed.{sizes_in}
use Rattle.store.specs.Image.{IsImage}
use Rattle.store.specs.Loading.{Outcome}
use Rattle.store.proofs.Reading.{read_sizes}
use Rattle.store.proofs.Decoding.{restored, decode}
use Rattle.store.proofs.Laws.{image_laws, image_state}
use Rattle.calls.specs.Calls.{refused_store, RequestCall, AskedCall, LineCall, ListingCall}
use Rattle.calls.specs.PastDecides.{Needed, PastDecidesNothing}
use Rattle.calls.proofs.Accepted.{below_request}
use Rattle.calls.proofs.Loads.{written_answers}

-- the sizes of an image's state are those at the front
decoded_sizes : (l : List ℕ) → (decode l).sizes ≡ sizes_in l
unfolding decode restored read_sizes
decoded_sizes l = refl

-- they are read of the needed words
front_sizes : (l rest : List ℕ) → Needed l → sizes_in (l ++ rest) ≡ sizes_in l
front_sizes l rest long =
    let front : (i : ℕ) → i < 3 → get_or (l ++ rest) i 0 ≡ get_or l i 0 = λ i h. get_or-append l rest 0 i (omega arith) in
    λ i. record { places = front 0 (omega arith) i; entries = front 1 (omega arith) i; words = front 2 (omega arith) i }

same_image : (l rest rest' : List ℕ) → Needed l → IsImage (l ++ rest) → IsImage (l ++ rest')
same_image l rest rest' long x =
    let sizes : x.state.sizes ≡ sizes_in l = sym (ap (λ (s : State). s.sizes) (image_state (l ++ rest) x)) ∙ decoded_sizes (l ++ rest) ∙ front_sizes l rest long in
    let as_long : length l ≡ length (image x.state) = long ∙ sym (ap (λ (z : Sizes). needed z) sizes) ∙ sym (image_laws.image_length x.state) in
    let same : l ≡ image x.state = sym (take-append_seam l rest) ∙ (λ i. take (as_long i) (x.words i)) ∙ take-append_seam (image x.state) x.rest in
    record { state = x.state; rest = rest'; sound = x.sound; words = ap (λ (z : List ℕ). z ++ rest') same }

-- a store answered 15 is no image
refused_request : (request : Request) (l : List ℕ) (o : Outcome) → RequestCall request l o → o.number ≡ not_a_state → ¬ IsImage l
unfolding RequestCall
refused_request request l o call e x =
    let same = ap (λ (y : Outcome). y.number) (call.on_image x.state x.rest x.sound x.words) in
    omega (arith, below_request request x.state x.rest x.sound, same, e)

past_request : (request : Request) (l rest rest' : List ℕ) (o o' : Outcome) → Needed l → RequestCall request (l ++ rest) o → o.number ≡ not_a_state
    → RequestCall request (l ++ rest') o' → o' ≡ refused_store (l ++ rest')
unfolding RequestCall
past_request request l rest rest' o o' long call e call' = call'.elsewhere (λ x. refused_request request (l ++ rest) o call e (same_image l rest' rest long x))

past_asked : (asked : Option Request) (l rest rest' : List ℕ) (o o' : Outcome) → Needed l → AskedCall asked (l ++ rest) o → o.number ≡ not_a_state
    → AskedCall asked (l ++ rest') o' → o' ≡ refused_store (l ++ rest')
unfolding AskedCall
past_asked none l rest rest' o o' long call e call' = let same : o.number ≡ bad_line = ap (λ (y : Outcome). y.number) call in absurd (omega (arith, same, e))
past_asked (some request) l rest rest' o o' long call e call' = past_request request l rest rest' o o' long call e call'

past_line : (line l rest rest' : List ℕ) (o o' : Outcome) → Needed l → LineCall line (l ++ rest) o → o.number ≡ not_a_state
    → LineCall line (l ++ rest') o' → o' ≡ refused_store (l ++ rest')
unfolding LineCall
past_line line = past_asked (parse_line line)

past_listing : (l rest rest' out : List ℕ) (o o' : Outcome) → Needed l → ListingCall (l ++ rest) out o → o.number ≡ not_a_state
    → ListingCall (l ++ rest') out o' → o' ≡ refused_store out
unfolding ListingCall
past_listing l rest rest' out o o' long call e call' = call'.elsewhere λ x.
    let y = same_image l rest' rest long x in
    written_answers (listing y.state) out (sym (ap (λ (z : Outcome). z.number) (call.on_image y.state y.rest y.sound y.words)) ∙ e)

pub past_decides_nothing : PastDecidesNothing
past_decides_nothing = record {
  image = same_image;
  no_image = λ l rest rest' long n x. n (same_image l rest' rest long x);
  request = past_request;
  line = past_line;
  listing = past_listing;
}

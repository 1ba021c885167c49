-- Two outcomes that a contract allows are equal; and no contract asks for two things at once.
use Prim.Native.Nat.{ℕ}
use mathlib.Core.Path.{◌≡◌, refl, sym, ◌∙◌, ap}
use mathlib.Core.Option.{Option, none, some}
use mathlib.Core.List.{List, List-discrete}
use native.Mathlib.Decide.{ℕ_discrete}
use Rattle.rules.specs.State.{State}
use Rattle.rules.specs.Line.{Request, parse_line}
use Rattle.rules.specs.Replies.{perform}
use Rattle.store.specs.Image.{IsImage}
use Rattle.store.specs.Loading.{Outcome}
use Rattle.store.proofs.Laws.{image_laws}
use Rattle.calls.specs.Calls.{OfStore, stored, RequestCall, AskedCall, LineCall, ListingCall, LoadCall}
use Rattle.calls.specs.Promises.{Determined, Possible}
use Rattle.calls.proofs.Answering.{without_state, with_state}

-- equality of words is decidable, so two outcomes are equal where they cannot differ
stable : {A : Type 0} → Dec A → ¬ (¬ A) → A
stable (yes a) h = a
stable (no n) h = absurd (h n)

same_outcome : (o o' : Outcome) → o.number ≡ o'.number → o.value ≡ o'.value → o.left ≡ o'.left → o ≡ o'
same_outcome o o' p q r = λ i. record { number = p i; value = q i; left = r i }

stable_outcome : (o o' : Outcome) → ¬ (¬ (o ≡ o')) → o ≡ o'
stable_outcome o o' h =
    same_outcome o o'
    (stable (ℕ_discrete o.number o'.number) (λ n. h (λ e. n (ap (λ (x : Outcome). x.number) e))))
    (stable (ℕ_discrete o.value o'.value) (λ n. h (λ e. n (ap (λ (x : Outcome). x.value) e))))
    (stable (List-discrete ℕ_discrete o.left o'.left) (λ n. h (λ e. n (ap (λ (x : Outcome). x.left) e))))

-- If two outcomes differed, the store would be no image, and then both would be the refusal.
pub store_determined : (entry : List ℕ) (of : State → List ℕ → Outcome) (otherwise o o' : Outcome) → OfStore entry of otherwise o → OfStore entry of otherwise o' → o ≡ o'
store_determined entry of otherwise o o' a b = stable_outcome o o' (λ differ.
    let no_image : ¬ IsImage entry = λ x. differ (a.on_image x.state x.rest x.sound x.words ∙ sym (b.on_image x.state x.rest x.sound x.words)) in
    differ (a.elsewhere no_image ∙ sym (b.elsewhere no_image)))

pub request_determined : (request : Request) (entry : List ℕ) (o o' : Outcome) → RequestCall request entry o → RequestCall request entry o' → o ≡ o'
unfolding RequestCall
request_determined request entry o o' a b = store_determined entry _ _ o o' a b

asked_determined : (asked : Option Request) (entry : List ℕ) (o o' : Outcome) → AskedCall asked entry o → AskedCall asked entry o' → o ≡ o'
unfolding AskedCall
asked_determined none entry o o' a b = a ∙ sym b
asked_determined (some request) entry o o' a b = request_determined request entry o o' a b

pub line_determined : (line entry : List ℕ) (o o' : Outcome) → LineCall line entry o → LineCall line entry o' → o ≡ o'
unfolding LineCall
line_determined line entry o o' a b = asked_determined (parse_line line) entry o o' a b

pub listing_determined : (store out : List ℕ) (o o' : Outcome) → ListingCall store out o → ListingCall store out o' → o ≡ o'
unfolding ListingCall
listing_determined store out o o' a b = store_determined store _ _ o o' a b

pub determined : Determined
unfolding LoadCall
determined = record {
  load = λ module' sizes entry o o' a b. a ∙ sym b;
  request = request_determined;
  line = line_determined;
  listing = listing_determined;
}

pub possible : Possible
unfolding RequestCall
possible = record {
  on_image = λ request s rest sound. with_state (record { state = s; rest = rest; sound = sound; words = refl }) λ s' rest' h.
      let (same, same_rest) = image_laws.one_state s s' rest rest' sound h.sound h.words in
      ap (λ (x : State). stored (perform request x) rest) same ∙ ap (λ (r : List ℕ). stored (perform request s') r) same_rest;
  elsewhere = λ request entry no. without_state no;
}

-- A listing that is printed ends within the output that holds it.
use Prim.Native.Nat.{ℕ, ◌≤◌}
use mathlib.Core.Path.{◌≡◌, sym, ◌∙◌, ap}
use mathlib.Core.Logic.{inl, inr}
use mathlib.Core.List.{List}
use native.Mathlib.Omega.{arith}
use native.Mathlib.Decide.{dec_le}
use lib.Dec.{leb}
use lib.ListN.{length}
use Rattle.std.specs.Prelude.{Ok}
use Rattle.lists.proofs.Tests.{true_or_false, leb-true}
use Rattle.rules.specs.Answers.{done, no_room, not_a_state}
use Rattle.rules.specs.Listing.{listing}
use Rattle.store.specs.Image.{IsImage}
use Rattle.store.specs.Loading.{Outcome}
use Rattle.calls.specs.Calls.{written, ListingCall}
use Rattle.calls.specs.Numbers.{Answer, number_of, value_of, Lists}

-- a listing that is answered `done`
written_ends : (text out : List ℕ) → (written text out).number ≡ done → (written text out).value ≤ length out
unfolding written
written_ends text out h = elim (true_or_false (leb (length text) (length out))) [
  | inl fits ↦ rw (fits, written) (leb-true (length text) (length out) fits)
  | inr over ↦ let sixteen : ◌≡◌ {A = ℕ} no_room done = rw (over, written) at h in absurd (omega (arith, sixteen))
]

-- if its length went past the output the store would be no image, and the listing refused
pub listing_ends : (store old new : List ℕ) (a : Answer) (n : ℕ) → Lists store old new a → a ≡ Ok n → length new ≡ length old → n ≤ length new
unfolding Lists ListingCall number_of value_of
listing_ends store old new a n call is long = elim (dec_le n (length old)) [
  | yes l ↦ omega arith
  | no g ↦
      let number : number_of a ≡ done = ap number_of is in
      let value : value_of a ≡ n = ap value_of is in
      let no_image : ¬ IsImage store = λ x.
      let same = call.on_image x.state x.rest x.sound x.words in
      let within = written_ends (listing x.state) old (sym (ap (λ (o : Outcome). o.number) same) ∙ number) in
      let length-is = ap (λ (o : Outcome). o.value) same in
      absurd (omega (arith, g, within, length-is, value)) in
      let fifteen : ◌≡◌ {A = ℕ} not_a_state done = sym (ap (λ (o : Outcome). o.number) (call.elsewhere no_image)) ∙ number in
      absurd (omega (arith, fifteen))
]

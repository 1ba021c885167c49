-- Laws of the whole listing and of its answer.
use Prim.Native.Nat.{ℕ, ◌≤◌, ◌<◌}
use mathlib.Core.Path.{◌≡◌, refl, sym, ◌∙◌, ap}
use mathlib.Core.Bool.{Bool, false}
use mathlib.Core.List.{List, [], ◌∷◌, ◌++◌}
use native.Mathlib.Omega.{arith}
use lib.ListN.{length, drop}
use Rattle.std.specs.Prelude.{Ok, Err}
use Rattle.lists.specs.Lists.{keep, up_to}
use Rattle.lists.specs.Decides.{Decides}
use Rattle.lists.proofs.Tests.{leb_of, leb_over, choose_true, choose_false}
use Rattle.lists.proofs.Decides.{refuted}
use Rattle.rules.specs.Answers.{done}
use Rattle.rules.specs.State.{State, in_pool}
use Rattle.rules.specs.Listing.{listing}
use Rattle.store.specs.Image.{IsImage}
use Rattle.calls.specs.Calls.{outcome, written, ListingCall}
use Rattle.calls.specs.Numbers.{number_of, value_of, Lists}
use Rattle.calls.specs.declared.answers.Refusal.TheVariants.{NotAState, NoRoom}
use Rattle.text.specs.Written.{far, Wrote}
use Rattle.text.specs.Lines.{processes_line}
use Rattle.text.proofs.WritingLaws.{wrote_then, wrote_length, wrote_fits, measured_fits, measured_over}
use Rattle.reading.specs.Reads.{OfState}
use Rattle.listing.specs.Listed.{places_text, flying_line}
use Rattle.calls.proofs.Answering.{without_state, with_state}
use Rattle.calls.proofs.ListingRoom.{listing_most}
use Rattle.reading.proofs.Holding.{at_image}

pub whole_listing : (l : List ℕ) (count b b' e : ℕ) (old mid mid' new : List ℕ) → OfState l (λ s. count ≡ length (keep (in_pool s) (up_to s.sizes.places))) → Wrote (processes_line count) 0 old mid b
    → OfState l (λ s. Wrote (places_text s s.sizes.places) b mid mid' b') → OfState l (λ s. Wrote (flying_line s) b' mid' new e) → OfState l (λ s. Wrote (listing s) 0 old new e)
unfolding OfState listing processes_line places_text flying_line
whole_listing l count b b' e old mid mid' new n w v f s rest x = wrote_then (wrote_then (rw (n s rest x) at w) (v s rest x)) (f s rest x)

-- ---- the answers

module _ (l out : List ℕ) where
  pub lists_no_state : (b : Bool) → Decides (IsImage l) b → b ≡ false → Lists l out out (Err NotAState)
  unfolding Lists ListingCall number_of value_of
  lists_no_state b d e = without_state (refuted d e)

  module _ (is : IsImage l) (measured : ℕ) (room part : List ℕ) (length-is : OfState l (λ s. Wrote (listing s) 0 room part measured)) (empty : length room ≡ 0) (short : length out < far) where
    -- nothing was written into the empty part
    nothing : part ++ out ≡ out
    nothing = go part (wrote_length (at_image (λ s. Wrote (listing s) 0 room part measured) is length-is) ∙ empty)
      where
        go : (xs : List ℕ) → length xs ≡ 0 → xs ++ out ≡ out
        go [] e = refl
        go (x ∷ xs) e = absurd (omega arith)

    pub lists_no_room : length out < measured → Lists l out (part ++ out) (Err NoRoom)
    unfolding Lists ListingCall OfState number_of value_of written
    lists_no_room h = rw nothing (with_state is λ s rest x.
        let over = measured_over (length-is s rest x) short h in
        sym (choose_false _ _ (leb_over (length (listing s)) (length out) over)))

    pub length_small : measured ≤ length out → measured < 4294967296
    length_small h =
        let w = at_image (λ s. Wrote (listing s) 0 room part measured) is length-is in
        omega (arith, measured_fits w short h, listing_most is.state is.sound)

    pub lists_all : (new : List ℕ) (end : ℕ) → measured ≤ length out → OfState l (λ s. Wrote (listing s) 0 (part ++ out) new end) → Lists l out new (Ok measured)
    unfolding Lists ListingCall OfState number_of value_of written
    lists_all new end h f = with_state is λ s rest x. so s (length-is s rest x) (rw nothing at (f s rest x))
      where
        so : (s : State) → Wrote (listing s) 0 room part measured → Wrote (listing s) 0 out new end → outcome done measured new ≡ written (listing s) out
        so s w v =
            let n : length (listing s) ≡ measured = measured_fits w short h in
            let e = v.end_is in
            let fits = wrote_fits v (let d : end ≤ length out = omega arith in d) in
            let left : new ≡ listing s ++ drop (length (listing s)) out = fits.1 ∙ ap (λ (k : ℕ). listing s ++ drop k out) (let d : end ≡ length (listing s) = omega arith in d) in
            sym (choose_true _ _ (leb_of (length (listing s)) (length out) (omega arith)) ∙ (λ i. outcome done (n i) (sym left i)))

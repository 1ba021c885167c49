-- Room for every listing. 01: "16, no room: listing longer than the output". In 65,536 bytes every listing has room, whatever the sizes.
-- Shown by `listing_room_lem` of proofs/ListingRoom.
use Rattle.std.specs.Prelude.{ℕ, ◌≤◌, ◌≢◌, List, length}
use Rattle.rules.specs.Answers.{no_room}
use Rattle.rules.specs.State.{State}
use Rattle.rules.specs.Sound.{Sound}
use Rattle.rules.specs.Listing.{listing, listing_room}
use Rattle.store.specs.Loading.{Outcome}
use Rattle.calls.specs.Calls.{ListingCall}
use Rattle.calls.specs.Numbers.{Answer, number_of, Lists}

pub record ListingRoom : Type 0 where
  -- no listing of a sound state is longer
  pub fits : (s : State) → Sound s → length (listing s) ≤ listing_room
  -- so with such an output the listing is not answered 16, whatever the store holds
  pub call : (store out : List ℕ) (o : Outcome) → listing_room ≤ length out → ListingCall store out o → o.number ≢ no_room
  pub answer : (store entry exit : List ℕ) (r : Answer) → listing_room ≤ length entry → Lists store entry exit r → number_of r ≢ no_room

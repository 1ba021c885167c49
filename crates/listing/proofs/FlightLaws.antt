-- Laws of the messages in flight of a listing.
use Rattle.std.proofs.Common.{Option, None, Some}
use Prim.Native.Nat.{ℕ, ◌+◌, ◌-◌, ◌*◌, ◌/◌, ◌%◌, ◌≤◌, ◌<◌}
use mathlib.Core.Path.{◌≡◌, refl, sym, ◌∙◌, ap}
use mathlib.Core.Bool.{Bool, true, false, not}
use mathlib.Core.Option.{none, some}
use mathlib.Core.List.{List, [], ◌∷◌, ◌++◌, map, map-append, append-nil, append_assoc}
use native.Mathlib.Omega.{arith}
use native.Mathlib.Numerals.{add-one}
use lib.ListN.{length, drop}
use Rattle.lists.specs.Lists.{keep, joined, up_to}
use Rattle.lists.proofs.Lists.{keep_nil, joined_last}
use Rattle.rules.specs.State.{Letter, letter, Entry, State, history_at}
use Rattle.rules.specs.Flight.{sends, sent, has_come, flies, is_flying, Name, name, flight_of, flight}
use Rattle.rules.specs.Text.{spaced, line, bytes, line_feed, space}
use Rattle.rules.specs.Listing.{name_text, flight_text}
use Rattle.rules.specs.Sound.{Sound}
use Rattle.store.specs.Image.{IsImage}
use Rattle.store.specs.Layout.{most_entries, name_base}
use Rattle.store.proofs.SoundStates.{sizes_in_lem, in_places}
use Rattle.store.proofs.Histories.{sends_few, sent_below}
use Rattle.std.specs.Int.{from_bool}
use Rattle.text.specs.Written.{far, onward, Wrote, gap}
use Rattle.text.proofs.WritingLaws.{wrote_none, wrote_then, wrote_line}
use Rattle.reading.specs.Reads.{OfState, IsPlace, IsSend, OfSend, SendAt, oldest, SendFound}
use Rattle.listing.specs.declared.flying.Row.{Row}
use Rattle.listing.specs.Listed.{follow, behind, Followed, name_if, flying_texts, flying_line}
use Rattle.reading.proofs.Holding.{at_image}
use Rattle.reading.proofs.MailReads.{found_at}
use Rattle.listing.proofs.ProcessLaws.{kept_next, kept_same}

-- ---- whether a message is in flight

-- the send that was found
sent_at : (s : State) (p k i : ℕ) (r : Option ℕ) → r ≡ Some i → SendFound (history_at s p) k r → SendAt p k i s
sent_at s p k i r e f = found_at s p k i (rw e at f)

-- counts of sends are small
sent_small : (s : State) (p k : ℕ) {l : Letter} → Sound s → sent (history_at s p) k ≡ some l → k < most_entries
sent_small s p k x e =
    omega (arith, sent_below (history_at s p) k e, sends_few (history_at s p), x.history_fits p, (sizes_in_lem s.sizes x.sizes_pass).entries_high)

flies_so : (s : State) (p k t : ℕ) (v : List ℕ) (b : Bool) → Sound s → sent (history_at s p) k ≡ some (letter t v) → b ≡ has_come s p k t → not b ≡ is_flying s p k
unfolding is_flying flies
flies_so s p k t v b x e h = rw (e, x.targets_in_pool p k t v e, h, is_flying, flies) refl

module _ (l : List ℕ) (p k : ℕ) (r : Option ℕ) (found : OfState l (λ s. SendFound (history_at s p) k r)) where
  -- no such send
  pub not_sent : r ≡ None → OfState l (λ s. false ≡ is_flying s p k)
  unfolding OfState SendFound is_flying
  not_sent e s rest x = let n : sent (history_at s p) k ≡ none = (let f = found s rest x in rw e at f) in rw (n, is_flying) refl

  module _ (i : ℕ) (at : r ≡ Some i) where
    pub is_send : OfState l (IsSend p i)
    unfolding OfState
    is_send s rest x = let f = sent_at s p k i r at (found s rest x) in record { entry = f.entry; target = f.target; value = f.value; stands = f.stands; is_send = f.is_send }

    pub count_small : IsImage l → k < most_entries
    count_small j = sent_small j.state p k j.sound (sent_at j.state p k i r at (at_image (λ s. SendFound (history_at s p) k r) j found)).is_kth

    module _ (t : ℕ) (goes : OfState l (OfSend p i (λ target value. t ≡ target))) where
      pub target_place : OfState l (IsPlace t)
      unfolding OfState OfSend
      target_place s rest x =
          let f = sent_at s p k i r at (found s rest x) in
          let e : t ≡ f.target = goes s rest x f.entry f.target f.value f.stands f.is_send in
          let g = in_places s x.sound f.target (x.sound.targets_in_pool p k f.target f.value f.is_kth) in
          omega arith

      pub flies_unless_come : (b : Bool) (n : ℕ) → n ≡ p * name_base + k → OfState l (λ s. b ≡ has_come s (n / name_base) (n % name_base) t) → OfState l (λ s. not b ≡ is_flying s p k)
      unfolding OfState OfSend
      flies_unless_come b n e come s rest x =
          let f = sent_at s p k i r at (found s rest x) in
          let e' : t ≡ f.target = goes s rest x f.entry f.target f.value f.stands f.is_send in
          let small = sent_small s p k x.sound f.is_kth in
          let q : n / name_base ≡ p = omega arith in
          let m : n % name_base ≡ k = omega arith in
          flies_so s p k f.target f.value b x.sound f.is_kth (come s rest x ∙ (λ i. has_come s (q i) (m i) (e' i)))

-- ---- rows of names

follow_append : (begun : Bool) (xs ys : List (List ℕ)) → follow begun (xs ++ ys) ≡ follow begun xs ++ follow (behind begun xs) ys
unfolding follow behind
follow_append begun [] ys = refl
follow_append begun (x ∷ xs) ys = ap (λ (r : List ℕ). gap (from_bool begun) ++ x ++ r) (follow_append true xs ys ∙ ap (λ (b : Bool). follow true xs ++ follow b ys) (behind_one xs)) ∙ sym (append_assoc (gap (from_bool begun) ++ x) (follow true xs) (follow true ys))
  where
    behind_one : (xs : List (List ℕ)) → behind true xs ≡ true
    behind_one [] = refl
    behind_one (x ∷ xs) = refl

behind_append : (begun : Bool) (xs ys : List (List ℕ)) → behind begun (xs ++ ys) ≡ behind (behind begun xs) ys
unfolding behind
behind_append begun [] ys = refl
behind_append begun (x ∷ xs) [] = refl
behind_append begun (x ∷ xs) (y ∷ ys) = refl

spaced_follow : (x : List ℕ) (xs : List (List ℕ)) → spaced (x ∷ xs) ≡ x ++ follow true xs
unfolding spaced follow gap
spaced_follow x [] = sym (append-nil x)
spaced_follow x (y ∷ ys) = ap (λ (r : List ℕ). x ++ (space ∷ r)) (spaced_follow y ys)

spaced_is : (xs : List (List ℕ)) → follow false xs ≡ spaced xs
unfolding spaced follow gap
spaced_is [] = refl
spaced_is (x ∷ xs) = sym (spaced_follow x xs)

-- pieces and then others
followed_then : (xs ys : List (List ℕ)) (from mid to : Row) (old new newer : List ℕ) → Followed xs from old new mid → Followed ys mid new newer to → Followed (xs ++ ys) from old newer to
followed_then xs ys from mid to old new newer f g = record {
  wrote = rw (follow_append from.begun xs ys) (wrote_then f.wrote (rw f.is_behind at g.wrote));
  is_behind = g.is_behind ∙ ap (λ (b : Bool). behind b ys) f.is_behind ∙ sym (behind_append from.begun xs ys);
}

followed_none : (from to : Row) (old : List ℕ) → to.to ≡ onward (from.to + 0) → to.begun ≡ from.begun → length old < far → Followed [] from old old to
unfolding follow behind
followed_none from to old e b short = record { wrote = wrote_none old from.to to.to e short; is_behind = b }

followed_one : (x : List ℕ) (from to : Row) (old mid new : List ℕ) (next : ℕ) → Wrote (gap (from_bool from.begun)) from.to old mid next → Wrote x next mid new to.to → to.begun ≡ true → Followed (x ∷ []) from old new to
unfolding follow behind
followed_one x from to old mid new next g w b = record { wrote = rw (append-nil (gap (from_bool from.begun) ++ x)) (wrote_then g w); is_behind = b }

-- ---- one name

module _ (l : List ℕ) (s k : ℕ) (b : Bool) (flying : OfState l (λ state. b ≡ is_flying state s k)) (from to : Row) (old : List ℕ) where
  pub name_not : b ≡ false → to.to ≡ onward (from.to + 0) → to.begun ≡ from.begun → length old < far → OfState l (λ state. Followed (name_if (is_flying state s k) s k) from old old to)
  unfolding OfState name_if
  name_not e r q short state rest x = rw (sym (flying state rest x) ∙ e, name_if) (followed_none from to old r q short)

  pub name_so : (mid new : List ℕ) (next piece : ℕ) → b ≡ true → piece ≡ from_bool from.begun → Wrote (gap piece) from.to old mid next → Wrote (name_text s k) next mid new to.to → to.begun ≡ true → OfState l (λ state. Followed (name_if (is_flying state s k) s k) from old new to)
  unfolding OfState name_if
  name_so mid new next piece e is g w q state rest x = rw (sym (flying state rest x) ∙ e, name_if) (followed_one (name_text s k) from to old mid new next (rw is at g) w q)

-- ---- the names of one sender

-- the texts of those of its names below a count
unfoldable pub names_below : State → (s n : ℕ) → List (List ℕ)
names_below state s n = map flight_text (map (λ k. name s k) (keep (is_flying state s) (up_to n)))

names_next : (state : State) (s n : ℕ) → names_below state s n ++ name_if (is_flying state s n) s n ≡ names_below state s (n + 1)
unfolding names_below name_if flight_text
names_next state s n = go (is_flying state s n) refl
  where
    go : (b : Bool) → is_flying state s n ≡ b → names_below state s n ++ name_if b s n ≡ names_below state s (n + 1)
    go true e =
        let kept = keep (is_flying state s) (up_to n) in
        sym
        (ap (λ (ks : List ℕ). map flight_text (map (λ k. name s k) ks)) (kept_next (is_flying state s) n e)
        ∙ ap (map flight_text) (map-append (λ k. name s k) kept (n ∷ []))
        ∙ map-append flight_text (map (λ k. name s k) kept) (name s n ∷ []))
    go false e =
        append-nil (names_below state s n) ∙ sym (ap (λ (ks : List ℕ). map flight_text (map (λ k. name s k) ks)) (kept_same (is_flying state s) n e ∙ append-nil (keep (is_flying state s) (up_to n))))

whole_history : (h : List Entry) (i : ℕ) → i ≡ length h → oldest i h ≡ h
unfolding oldest
whole_history h i e = ap (λ (n : ℕ). drop n h) (let z : length h - i ≡ 0 = omega arith in z)

pub whole_fits : (l : List ℕ) (s i : ℕ) → OfState l (λ state. i ≡ length (history_at state s)) → OfState l (λ state. i ≤ length (history_at state s))
unfolding OfState
whole_fits l s i f state rest x = let e = f state rest x in omega arith

module _ (l : List ℕ) (s : ℕ) (first : Row) where
  pub names_none : (old : List ℕ) (from : ℕ) → first.to ≡ onward (from + 0) → length old < far → OfState l (λ state. Followed (names_below state s 0) first old old first)
  unfolding OfState names_below up_to
  names_none old from e short state rest x =
      rw (keep_nil (is_flying state s)) (followed_none first first old (omega arith) refl short)

  pub names_more : (k : ℕ) (old mid new : List ℕ) (row next : Row) → OfState l (λ state. Followed (names_below state s k) first old mid row) → OfState l (λ state. Followed (name_if (is_flying state s k) s k) row mid new next)
      → OfState l (λ state. Followed (names_below state s (k + 1)) first old new next)
  unfolding OfState
  names_more k old mid new row next f g state rest x =
      rw (names_next state s k) at (followed_then (names_below state s k) (name_if (is_flying state s k) s k) first row next old mid new (f state rest x) (g state rest x))

  pub names_all : (i k end : ℕ) (old new : List ℕ) (from row : Row) → OfState l (λ state. i ≡ length (history_at state s)) → OfState l (λ state. end ≡ sends (oldest i (history_at state s))) → k ≡ end
      → first.to ≡ onward (from.to + 0) → first.begun ≡ from.begun → length old < far
      → OfState l (λ state. Followed (names_below state s k) first old new row) → OfState l (λ state. Followed (map flight_text (flight_of state s)) from old new row)
  unfolding OfState flight_of names_below
  names_all i k end old new from row h n e at before short f state rest x =
      let m : k ≡ sends (history_at state s) = e ∙ n state rest x ∙ ap sends (whole_history (history_at state s) i (h state rest x)) in
      rw m at (followed_then [] (names_below state s k) from first row old old new (followed_none from first old at before short) (f state rest x))

-- ---- the names of all senders

texts_next : (state : State) (n : ℕ) → flying_texts state n ++ map flight_text (flight_of state n) ≡ flying_texts state (n + 1)
unfolding flying_texts up_to
texts_next state n =
    sym
    (rw (add-one n)
    (ap (λ (r : List (List Name)). map flight_text (joined r)) (map-append (flight_of state) (up_to n) (n ∷ []))
    ∙ ap (map flight_text) (joined_last (map (flight_of state) (up_to n)) (flight_of state n))
    ∙ map-append flight_text (joined (map (flight_of state) (up_to n))) (flight_of state n)))

module _ (l : List ℕ) (first : Row) where
  pub senders_none : (old : List ℕ) (from : ℕ) → first.to ≡ onward (from + 0) → length old < far → OfState l (λ state. Followed (flying_texts state 0) first old old first)
  unfolding OfState flying_texts up_to joined
  senders_none old from e short state rest x = followed_none first first old (omega arith) refl short

  pub senders_more : (s : ℕ) (old mid new : List ℕ) (row next : Row) → OfState l (λ state. Followed (flying_texts state s) first old mid row) → OfState l (λ state. Followed (map flight_text (flight_of state s)) row mid new next)
      → OfState l (λ state. Followed (flying_texts state (s + 1)) first old new next)
  unfolding OfState
  senders_more s old mid new row next f g state rest x =
      rw (texts_next state s) at (followed_then (flying_texts state s) (map flight_text (flight_of state s)) first row next old mid new (f state rest x) (g state rest x))

  pub senders_all : (s end : ℕ) (old new : List ℕ) (from row : Row) → OfState l (λ state. end ≡ state.sizes.places) → s ≡ end
      → first.to ≡ onward (from.to + 0) → first.begun ≡ from.begun → length old < far
      → OfState l (λ state. Followed (flying_texts state s) first old new row) → OfState l (λ state. Followed (flying_texts state state.sizes.places) from old new row)
  unfolding OfState
  senders_all s end old new from row n e at before short f state rest x =
      rw (e ∙ n state rest x) at (followed_then [] (flying_texts state s) from first row old old new (followed_none from first old at before short) (f state rest x))

-- ---- the line

pub flight_line : (l : List ℕ) (old mid mid' new : List ℕ) (at end : ℕ) (from row : Row) → Wrote (bytes "flight=") at old mid from.to → from.begun ≡ false
    → OfState l (λ state. Followed (flying_texts state state.sizes.places) from mid mid' row) → Wrote (line_feed ∷ []) row.to mid' new end → OfState l (λ state. Wrote (flying_line state) at old new end)
unfolding OfState flying_line line flight flying_texts
flight_line l old mid mid' new at end from row w b f v state rest x =
    let texts = flying_texts state state.sizes.places in
    let g : Wrote (spaced texts) from.to mid mid' row.to = rw (spaced_is texts) at (rw b at (f state rest x).wrote) in
    wrote_line w g v

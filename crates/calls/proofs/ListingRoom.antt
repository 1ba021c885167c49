-- Every listing of a sound state has room in 65,536 bytes: how long each of its lines can be, and all of them.
use Prim.Native.Nat.{ℕ, suc, ◌+◌, ◌*◌, ◌≤◌, ◌<◌}
use mathlib.Core.Path.{◌≡◌, refl, ◌∙◌, ap, subst}
use mathlib.Core.Logic.{◌≢◌}
use mathlib.Core.Option.{Option, none, some}
use mathlib.Core.List.{List, ◌++◌, map}
use native.Mathlib.Nat.{suc-mul}
use native.Mathlib.Omega.{arith}
use lib.ListN.{length, length-append, length-map}
use Rattle.lists.specs.Lists.{All, keep, joined, up_to}
use Rattle.lists.proofs.Tests.{leb_of}
use Rattle.lists.proofs.Lists.{keep_fewer, joined_next}
use Rattle.lists.proofs.All.{all_left, all_joined, all_map, all_so, all_any}
use Rattle.lists.proofs.Blocks.{length_up_to}
use Rattle.rules.specs.Answers.{done, not_a_state, no_room}
use Rattle.rules.specs.State.{Message, Process, State, history_of, history_at, in_pool}
use Rattle.rules.specs.Flight.{Name, name, sends, taken, is_flying, flight_of, flight}
use Rattle.rules.specs.Sound.{SentTo, Sound}
use Rattle.rules.specs.Text.{bytes, decimal, hex, spaced, line}
use Rattle.rules.specs.Listing.{newest_name, message_text, flight_text, process_lines, listing, listing_room}
use Rattle.store.specs.Layout.{most_places, most_words, most_names}
use Rattle.store.specs.Image.{IsImage}
use Rattle.store.specs.Loading.{Outcome}
use Rattle.store.proofs.LayoutLaws.{names_most}
use Rattle.store.proofs.Histories.{sends_few}
use Rattle.store.proofs.SoundStates.{SizesIn, sizes_in_lem, numbered}
use Rattle.calls.specs.Calls.{written, ListingCall}
use Rattle.calls.specs.Numbers.{Lists}
use Rattle.calls.specs.ListingRoom.{ListingRoom}
use Rattle.calls.proofs.TextLengths.{AtMost, name_room, word_room, two_digits, name_most, word_most, mapped_most, line_most, newest_most, five_append, sums, below, all_kept}
use Rattle.calls.proofs.QueuedOnce.{queued, few_queued}

-- what stands between spaces, with one of them
abbrev spaced_name : ℕ
spaced_name = suc name_room

abbrev spaced_word : ℕ
spaced_word = suc word_room

-- the five lines of a process but for the names of its queue: 7 + 11 + 13 + 7 + 7, and the words
abbrev process_room : ℕ
process_room = 45 + most_words * spaced_word

abbrev Short : Name → Type 0
Short n = AtMost name_room (flight_text n)

module _ (s : State) (sound : Sound s) where
  few : SizesIn s.sizes
  few = sizes_in_lem s.sizes sound.sizes_pass

  few_names : s.sizes.places * s.sizes.entries ≤ most_names
  few_names = names_most s.sizes sound.sizes_pass

  message_most : (p : ℕ) (m : Message) → SentTo s p m → AtMost name_room (message_text m)
  unfolding message_text
  message_most p m e =
      let n = numbered s sound p m e in
      name_most m.sender m.count (omega (arith, n.sender_below, few.places_high)) (omega (arith, n.count_below, few.entries_high))

  queue_most : (p : ℕ) → length (spaced (map message_text (s.queues p))) ≤ length (s.queues p) * spaced_name
  queue_most p = mapped_most name_room message_text (s.queues p) (all_so (message_most p) (s.queues p) (all_left (SentTo s p) (s.queues p) (taken (history_at s p)) (sound.nothing_else p)))

  words_most : (control : List ℕ) → length control ≤ s.sizes.words → length (spaced (map hex control)) ≤ most_words * spaced_word
  words_most control h = omega (arith, mapped_most word_room hex control (all_any word_most control), h, few.words_high)

  process_most : (p : ℕ) (o : Option Process) → s.processes p ≡ o → p < 100 → length (process_lines p (s.queues p) o) ≤ process_room + length (s.queues p) * spaced_name
  unfolding process_lines bytes history_at history_of
  process_most p none e h = omega arith
  process_most p (some process) e h =
      let entries : length process.history ≤ s.sizes.entries = subst (λ o. length (history_of o) ≤ s.sizes.entries) e (sound.history_fits p) in
      let entry-count = decimal (length process.history) in
      let kind = bytes (newest_name process.history) in
      let names = spaced (map message_text (s.queues p)) in
      let control = spaced (map hex process.control) in
      omega (
        arith,
        five_append (line "pid=" (decimal p)) (line "history=" entry-count) (line "newest=" kind) (line "queue=" names) (line "words=" control),
        line_most "pid=" (decimal p) 4 2 refl (two_digits p h),
        line_most "history=" entry-count 8 2 refl (two_digits (length process.history) (omega (arith, entries, few.entries_high))),
        line_most "newest=" kind 7 5 refl (newest_most process.history),
        line_most "queue=" names 6 (length (s.queues p) * spaced_name) refl (queue_most p),
        line_most "words=" control 6 (most_words * spaced_word) refl (words_most process.control (sound.controls p process e).fits),
      )

  -- ---- all of it

  -- the processes' lines, whose names are no more than P-as-H
  processes_most : length (joined (map (λ p. process_lines p (s.queues p) (s.processes p)) (up_to s.sizes.places))) ≤ most_places * process_room + most_names * spaced_name
  processes_most =
      let all = sums (λ p. process_lines p (s.queues p) (s.processes p)) (λ n. n * process_room + length (queued s n) * spaced_name) s.sizes.places λ p h.
      let own = process_most p (s.processes p) refl (omega (arith, h, few.places_high)) in
      let grown = ap length (joined_next s.queues p) ∙ length-append (queued s p) (s.queues p) in
      omega (arith, own, grown) in
      omega (arith, all, few_queued s sound s.sizes.places, few_names, few.places_high)

  flight_few : length (flight s) ≤ most_names
  unfolding flight flight_of
  flight_few =
      let all = sums (flight_of s) (λ n. n * s.sizes.entries) s.sizes.places λ p h.
      let kept = keep_fewer (is_flying s p) (up_to (sends (history_at s p))) in
      let long = length-map (keep (is_flying s p) (up_to (sends (history_at s p)))) (λ k. name p k) in
      omega (arith, kept, long, length_up_to (sends (history_at s p)), sends_few (history_at s p), sound.history_fits p, suc-mul p s.sizes.entries) in
      omega (arith, all, few_names)

  flying_most : All Short (flight s)
  unfolding flight flight_of flight_text
  flying_most = all_joined Short (map (flight_of s) (up_to s.sizes.places)) (all_map (All Short) (flight_of s) (up_to s.sizes.places) (below (λ p. All Short (flight_of s p)) s.sizes.places from))
    where
      from : (p : ℕ) → p < s.sizes.places → All Short (flight_of s p)
      from p h = all_map Short (λ k. name p k) (keep (is_flying s p) (up_to (sends (history_at s p)))) (all_kept (λ k. Short (name p k)) (is_flying s p) (up_to (sends (history_at s p))) (below (λ k. Short (name p k)) (sends (history_at s p)) λ k g.
          name_most p k (omega (arith, h, few.places_high)) (omega (arith, g, sends_few (history_at s p), sound.history_fits p, few.entries_high))))

  pub listing_most : length (listing s) ≤ listing_room
  unfolding listing bytes
  listing_most =
      let count = keep (in_pool s) (up_to s.sizes.places) in
      let lines = joined (map (λ p. process_lines p (s.queues p) (s.processes p)) (up_to s.sizes.places)) in
      let in_pool_lem : length count < 100 = omega (arith, keep_fewer (in_pool s) (up_to s.sizes.places), length_up_to s.sizes.places, few.places_high) in
      let first = line_most "processes=" (decimal (length count)) 10 2 refl (two_digits (length count) in_pool_lem) in
      let flying = mapped_most name_room flight_text (flight s) flying_most in
      let last = line_most "flight=" (spaced (map flight_text (flight s))) 7 (most_names * spaced_name) refl (omega (arith, flying, flight_few)) in
      omega (arith, length-append (line "processes=" (decimal (length count)) ++ lines) (line "flight=" (spaced (map flight_text (flight s)))), length-append (line "processes=" (decimal (length count))) lines, first, processes_most, last)

-- ---- the call

listed_done : (text out : List ℕ) → length text ≤ length out → (written text out).number ≡ done
unfolding written
listed_done text out h = rw (leb_of (length text) (length out) h, written) refl

has_room : (store out : List ℕ) (o : Outcome) → listing_room ≤ length out → ListingCall store out o → o.number ≢ no_room
unfolding ListingCall
has_room store out o room call e =
    let none_there : ¬ IsImage store = λ x.
    let is = ap (λ (y : Outcome). y.number) (call.on_image x.state x.rest x.sound x.words) in
    let fits = listing_most x.state x.sound in
    omega (arith, is, e, listed_done (listing x.state) out (omega (arith, fits, room))) in
    let refused : o.number ≡ not_a_state = ap (λ (y : Outcome). y.number) (call.elsewhere none_there) in
    omega (arith, refused, e)

pub listing_room_lem : ListingRoom
unfolding Lists
listing_room_lem = record { fits = listing_most; call = has_room; answer = λ store entry exit r room call. has_room store entry _ room call }

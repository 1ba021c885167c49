-- Rollback as a call: the checkpoint, the event's numbers, and the four answers.
use Rattle.std.proofs.Common.{None, Some}
use Prim.Native.Nat.{ℕ, suc, ◌*◌, ◌≤◌, ◌<◌}
use mathlib.Core.Path.{◌≡◌, refl, sym, ◌∙◌, ap, subst, fun_ext}
use mathlib.Core.Bool.{Bool, true, false, ◌&&◌}
use mathlib.Core.Option.{none, some}
use mathlib.Core.List.{List, [], ◌∷◌, ◌++◌}
use native.Mathlib.Omega.{arith}
use native.Mathlib.Decide.{dec_lt, ℕ_discrete}
use lib.Dec.{eqb}
use lib.ListN.{length, get_or, take, set}
use Rattle.std.specs.Prelude.{Err}
use Rattle.lists.proofs.Tests.{eqb_of, eqb_apart}
use Rattle.rules.specs.Answers.{done, no_process, held, no_checkpoint}
use Rattle.rules.specs.State.{Kind, seq, send, rec, spawn, self, check, as_spawn, as_check, Entry, State, history_at, entry_at, in_pool}
use Rattle.rules.specs.Sound.{Sound}
use Rattle.rules.specs.Line.{rollback_to}
use Rattle.rules.specs.Replies.{of_rollback, perform}
use Rattle.rules.specs.Depends.{Series, entries_of, deliveries_to, level, event}
use Rattle.rules.specs.Standing.{Suffix, whole, Stands}
use Rattle.rules.specs.Rollback.{is_check, newest_check, cut_to, cut_before, RolledBack, refused, undo_to, rolled_state, rollback}
use Rattle.demands.proofs.Histories.{suffix_length, suffix_tail, suffix_entry}
use Rattle.demands.proofs.SoundFacts.{child_lives}
use Rattle.demands.proofs.CutNumbers.{seen_low}
use Rattle.demands.proofs.EventDepends.{stands_low, arrives_low}
use Rattle.demands.proofs.Removal.{in_level, level_in}
use Rattle.demands.proofs.Cut.{place_of, place_below}
use Rattle.demands.proofs.Rollback.{newest_true, newest_false, newest_low, rollback_away, rollback_without, rollback_at}
use Rattle.store.specs.Layout.{kind_number, number_in, kind_check, image}
use Rattle.store.specs.Image.{IsImage}
use Rattle.store.proofs.SoundStates.{sizes_in_lem, in_places}
use Rattle.calls.specs.Calls.{count_in, outcome, stored}
use Rattle.calls.specs.Numbers.{Answer, number_of, value_of, RollbackCall}
use Rattle.calls.specs.Answering.{Answers}
use Rattle.calls.proofs.Answering.{request_refused, request_answered}
use Rattle.calls.specs.declared.answers.Refusal.TheVariants.{NoProcess, NoCheckpoint, NotAState}
use Rattle.kinds.specs.declared.Kind.TheVariants.{Check}
use Rattle.reading.specs.Reads.{Holds, OfState, IsPlace, IsEntry, OfEntry, is_numbered}
use Rattle.cuts.specs.Bounds.{most_places, line_count, most_events}
use Rattle.std.proofs.lemmas.List.{length-take-le, get_or-take}
use Rattle.links.proofs.LinkAdds.{says_kept, link_kept}
use Rattle.cuts.specs.declared.events.Event.{Event}
use Rattle.cuts.specs.declared.link.Link.{Link}
use Rattle.cuts.specs.Links.{no_link, line_number, cut_in, sum_of, Levels, Ties, of_rec, of_since, of_send, of_child, of_mail, Aims, of_aim, Says, Tied, Links, LinkFits, Room, OnEvents}
use Rattle.cuts.specs.Going.{Settles, Ready}
use Rattle.rollback.specs.Undone.{Tells, tells_done, tells_held, OfWords, TakesBack, Happens, EventBack, FindsCheck}
use Rattle.cuts.proofs.Lines.{at_line, same_line, cut_set}

-- ---- the lines of links are lines of places
module _ {s : State} (sound : Sound s) where
  few_places : s.sizes.places ≤ most_places
  few_places = (sizes_in_lem s.sizes sound.sizes_pass).places_high

  event_low : (x : Series) {i : ℕ} → i < level s x → line_number x < line_count
  event_low x h = at x (place_below sound x h)
    where
      at : (x : Series) → place_of x < s.sizes.places → line_number x < line_count
      at (entries_of p) h = omega (arith, h, few_places)
      at (deliveries_to q) h = omega (arith, h, few_places)

  entry_low : {p i : ℕ} {e : Entry} {g : List Entry} → Stands s p i e g → 2 * p < line_count
  entry_low {p} st = event_low (entries_of p) (stands_low st)

  child_low : {p q i : ℕ} {e : Entry} {g : List Entry} → Stands s p i e g → as_spawn e.kind ≡ some q → 2 * q < line_count
  child_low {p} {q} st is = omega (arith, in_places s sound q (child_lives sound p st.at is), few_places)

  ties_low : {x y : Series} {a b : ℕ} → Ties s x a y b → (line_number x < line_count) × (line_number y < line_count)
  ties_low (of_rec st is e) = (entry_low st, (let h = entry_low st in omega (arith, h)))
  ties_low (of_since st is) = ((let h = entry_low st in omega (arith, h)), entry_low st)
  ties_low (of_send {q} r st is c) = (event_low (deliveries_to q) (arrives_low r), entry_low st)
  ties_low (of_child st is) = (child_low st is, entry_low st)
  ties_low (of_mail st is) = ((let h = child_low st is in omega (arith, h)), entry_low st)

  aims_low : {x y : Series} {a b : ℕ} → Aims s x a y b → (line_number x < line_count) × (line_number y < line_count)
  aims_low (of_aim st' is' st is) = (entry_low st', entry_low st)

  link_fits : {links : List Link} {k : ℕ} {Of : Series → ℕ → Series → ℕ → Type 0} → ((x y : Series) (a b : ℕ) → Of x a y b → (line_number x < line_count) × (line_number y < line_count)) → k < length links
      → Says Of links k → LinkFits links k
  link_fits f h says =
      let (x, y) = f says.from says.on says.first says.second says.holds in
      record { low = h; from_line_lem = omega (arith, says.is.from_line_lem, x); on_line_lem = omega (arith, says.is.on_line_lem, y) }

  pub links_room : {links : List Link} {few : ℕ} → Links s links few → Room links
  links_room {few = few} linked = record {
    most = linked.most;
    each = λ k h. elim (dec_lt k few) [
      | yes g ↦ link_fits (λ x y a b t. ties_low t) h (linked.tied.each k g)
      | no g ↦ link_fits (λ x y a b t. aims_low t) h (linked.each k (omega (arith, g)) h)
    ];
  }

  -- what a tie is on has happened
  ties_on : {x y : Series} {a b : ℕ} → Ties s x a y b → b < level s y
  ties_on (of_rec st is e) = omega (arith, seen_low sound st is, e)
  ties_on (of_since st is) = stands_low st
  ties_on (of_send r st is c) = stands_low st
  ties_on (of_child st is) = stands_low st
  ties_on (of_mail st is) = stands_low st

  pub tied_on : {links : List Link} {levels : List ℕ} → Tied s links (length links) → Levels s levels → OnEvents links levels
  tied_on {levels = levels} tied n = record {
    each = λ k h. (let says = tied.each k h in omega (arith, ties_on says.holds, says.is.on_index_lem, at_line levels says.on says.is.on_line_lem, n.are says.on));
  }

-- ---- the first few links
module _ (links : List Link) (few : ℕ) (fewer : few ≤ length links) where
  abbrev pub first : List Link
  first = take few links

  pub first_long : length first ≡ few
  first_long = length-take-le few links fewer

  first_at : (k : ℕ) → k < few → get_or links k no_link ≡ get_or first k no_link
  first_at k h = sym (get_or-take few links k no_link h)

  pub first_tied : {s : State} → Tied s links few → Tied s first (length first)
  first_tied tied = record {
    each = λ k h. let low : k < few = omega (arith, h, first_long) in says_kept links first few (λ j g. sym (first_at j g)) low (tied.each k low);
    all = λ x a y b t. let z = tied.all x a y b t in record { place = z.place; below = omega (arith, z.below, first_long); is = link_kept links first few (λ j g. sym (first_at j g)) z.below z.is };
  }

  pub first_room : Room links → Room first
  first_room room = record {
    most = omega (arith, room.most, first_long, fewer);
    each = λ k h.
        let low : k < few = omega (arith, h, first_long) in
        let fits = room.each k (omega (arith, low, fewer)) in
        let line = ap (λ z. z.event.line) (first_at k low) in
        let on = ap (λ z. z.on.line) (first_at k low) in
        record { low = h; from_line_lem = omega (arith, fits.from_line_lem, line); on_line_lem = omega (arith, fits.on_line_lem, on) };
  }

-- ---- with the numbers of the state
module _ (store : List ℕ) (links : List Link) (few : ℕ) (levels : List ℕ) (x i : ℕ) (is_image : IsImage store) (linked : OfState store (λ s. Links s links few)) (level-numbers : OfState store (λ s. Levels s levels)) (happens : OfState store (Happens x i)) where
  abbrev one : Holds store is_image.state is_image.rest
  one = record { sound = is_image.sound; words = is_image.words }

  pub event_fewer : few ≤ length links
  unfolding OfState
  event_fewer = (linked is_image.state is_image.rest one).fewer

  abbrev ties : List Link
  ties = first links few event_fewer

  pub event_room : Room links
  unfolding OfState
  event_room = links_room is_image.sound (linked is_image.state is_image.rest one)

  pub event_few : Room ties
  event_few = first_room links few event_fewer event_room

  pub event_on : OnEvents ties levels
  unfolding OfState
  event_on = tied_on is_image.sound (first_tied links few event_fewer (linked is_image.state is_image.rest one).tied) (level-numbers is_image.state is_image.rest one)

  pub event_long : length levels ≡ line_count
  unfolding OfState
  event_long = (level-numbers is_image.state is_image.rest one).long

  pub event_most : sum_of levels ≤ most_events
  unfolding OfState
  event_most = (level-numbers is_image.state is_image.rest one).most

  pub event_line : x < line_count
  unfolding OfState
  event_line =
      let h = happens is_image.state is_image.rest one in
      let l = event_low is_image.sound h.line (in_level is_image.state h.line h.happens) in
      omega (arith, l, h.numbered)

  pub event_ready : (cut : List ℕ) → Settles ties (set levels x i) cut → OfState store (λ s. Ready s links cut levels)
  unfolding OfState Settles
  event_ready cut settles s rest holds =
      let l = linked s rest holds in
      let n = level-numbers s rest holds in
      let h = happens s rest holds in
      record {
        few = few;
        linked = l;
        levels_are = n;
        line = h.line;
        index = i;
        happens = h.happens;
        cut_is = settles s h.line i holds.sound (first_tied links few event_fewer l.tied) h.happens (cut_set levels h.line i (sym h.numbered) (omega (arith, event_line, event_long)) ∙ ap (cut_to h.line i) (fun_ext n.are));
      }

  pub event_back_lem : (cut exit : List ℕ) (r : Answer) → Settles ties (set levels x i) cut → OfWords store (λ s rest. TakesBack s rest exit (undo_to s (cut_in cut)) r) → OfWords store (EventBack x i exit r)
  unfolding OfState OfWords Settles EventBack
  event_back_lem cut exit r settles takes s rest holds y e =
      let l = linked s rest holds in
      let n = level-numbers s rest holds in
      let h = happens s rest holds in
      let same : h.line ≡ y = same_line h.line y (h.numbered ∙ sym e) in
      let is : cut_in cut ≡ cut_before s (event h.line i) =
      settles s h.line i holds.sound (first_tied links few event_fewer l.tied) h.happens (cut_set levels h.line i (sym h.numbered) (omega (arith, event_line, event_long)) ∙ ap (cut_to h.line i) (fun_ext n.are)) in
      subst (λ z. TakesBack s rest exit (undo_to s (cut_before s (event z i))) r) same (subst (λ k. TakesBack s rest exit (undo_to s k) r) is (takes s rest holds))

-- ---- the checkpoint
check_of : (kind : Kind) → kind_number kind ≡ kind_check → as_check kind ≡ some (number_in kind)
unfolding kind_number as_check number_in
check_of seq e = absurd (omega (arith, e))
check_of (send t v) e = absurd (omega (arith, e))
check_of (rec a m d) e = absurd (omega (arith, e))
check_of (spawn q) e = absurd (omega (arith, e))
check_of self e = absurd (omega (arith, e))
check_of (check n) e = refl

check_not : (kind : Kind) → ¬ (kind_number kind ≡ kind_check) → as_check kind ≡ none
unfolding kind_number as_check
check_not seq e = refl
check_not (send t v) e = refl
check_not (rec a m d) e = refl
check_not (spawn q) e = refl
check_not self e = refl
check_not (check n) e = absurd (e refl)

-- whether an entry is a check of a number, as the code asks
numbered_check : (t : ℕ) (e : Entry) → is_numbered Check t e ≡ is_check t (as_check e.kind)
unfolding is_check
numbered_check t e = elim (ℕ_discrete (kind_number e.kind) kind_check) [
  | no n ↦ ap (λ (b : Bool). b && eqb (number_in e.kind) t) (eqb_apart _ _ n) ∙ sym (ap (is_check t) (check_not e.kind n))
  | yes y ↦ ap (λ (b : Bool). b && eqb (number_in e.kind) t) (eqb_of _ _ y) ∙ sym (ap (is_check t) (check_of e.kind y))
]

newest_nil : (t : ℕ) → newest_check t [] ≡ none
unfolding newest_check
newest_nil t = refl

-- no entry from i on is it
pub record Unfound (p t i : ℕ) (s : State) : Type 0 where
  pub older : List Entry
  pub stands : Suffix older (history_at s p)
  pub count : length older ≡ i
  pub same : newest_check t (history_at s p) ≡ newest_check t older

module _ (store : List ℕ) (p t : ℕ) where
  pub unfound_start : (n : ℕ) → OfState store (λ s. n ≡ length (history_at s p)) → OfState store (Unfound p t n)
  unfolding OfState
  unfound_start n count s rest holds = record { older = history_at s p; stands = whole; count = sym (count s rest holds); same = refl }

  module _ (n i : ℕ) (next : n ≡ suc i) (unfound : OfState store (Unfound p t n)) where
    -- the entry at i
    cons_of : {s : State} → Unfound p t n s → (e : Entry) × (g : List Entry) × Suffix (e ∷ g) (history_at s p) × (length g ≡ i) × (newest_check t (history_at s p) ≡ newest_check t (e ∷ g))
    cons_of {s} u = go u.older u.stands u.count u.same
      where
        go : (l : List Entry) → Suffix l (history_at s p) → length l ≡ n → newest_check t (history_at s p) ≡ newest_check t l
            → (e : Entry) × (g : List Entry) × Suffix (e ∷ g) (history_at s p) × (length g ≡ i) × (newest_check t (history_at s p) ≡ newest_check t (e ∷ g))
        go [] st c w = absurd (omega (arith, c, next))
        go (e ∷ g) st c w = (e, g, st, omega (arith, c, next), w)

    pub unfound_entry : OfState store (IsEntry p i)
    unfolding OfState
    unfound_entry s rest holds = let (e, g, st, c, w) = cons_of (unfound s rest holds) in omega (arith, suffix_length st, c)

    module _ (r : Bool) (read : OfState store (OfEntry p i (λ e. r ≡ is_numbered Check t e))) where
      pub unfound_here : r ≡ true → OfState store (FindsCheck p t (Some i))
      unfolding OfState OfEntry FindsCheck
      unfound_here yes' s rest holds =
          let (e, g, st, c, w) = cons_of (unfound s rest holds) in
          w ∙ newest_true t e g (sym (read s rest holds e (subst (λ z. entry_at (history_at s p) z ≡ some e) c (suffix_entry st)) ∙ numbered_check t e) ∙ yes') ∙ ap some c

      pub unfound_on : r ≡ false → OfState store (Unfound p t i)
      unfolding OfState OfEntry
      unfound_on no' s rest holds =
          let (e, g, st, c, w) = cons_of (unfound s rest holds) in
          record { older = g; stands = suffix_tail st; count = c; same = w ∙ newest_false t e g (sym (read s rest holds e (subst (λ z. entry_at (history_at s p) z ≡ some e) c (suffix_entry st)) ∙ numbered_check t e) ∙ no') }

  pub unfound_nowhere : (n : ℕ) → n ≤ 0 → OfState store (Unfound p t n) → OfState store (FindsCheck p t None)
  unfolding OfState FindsCheck
  unfound_nowhere n h unfound s rest holds = go (unfound s rest holds).older (unfound s rest holds).count (unfound s rest holds).same
    where
      go : (l : List Entry) → length l ≡ n → newest_check t (history_at s p) ≡ newest_check t l → newest_check t (history_at s p) ≡ none
      go [] c w = w ∙ newest_nil t
      go (e ∷ l) c w = absurd (omega (arith, c, h))

-- ---- the four answers
module _ (p t : ℕ) (entry : List ℕ) where
  call_of : (exit : List ℕ) (r : Answer) → IsImage entry → Answers (rollback_to p t) entry exit r → RollbackCall p t entry exit r
  unfolding RollbackCall
  call_of exit r is_image f = request_answered (rollback_to p t) entry exit r is_image f

  pub call_elsewhere : ¬ IsImage entry → RollbackCall p t entry entry (Err NotAState)
  unfolding RollbackCall
  call_elsewhere n = request_refused (rollback_to p t) entry n

  refused_as : (r : Answer) (number : ℕ) → number_of r ≡ number → value_of r ≡ 0 → (s : State) (rest : List ℕ) → Holds entry s rest → rollback p t s ≡ refused number
      → outcome (number_of r) (value_of r) entry ≡ stored (of_rollback s (rollback p t s)) rest
  unfolding stored of_rollback count_in
  refused_as r number e v s rest holds is =
      (λ i. outcome (e i) (v i) (holds.words i)) ∙ sym (ap (λ b. stored (of_rollback s b) rest) is)

  pub call_away : {r : Bool} → IsImage entry → OfState entry (λ s. r ≡ in_pool s p) → r ≡ false → RollbackCall p t entry entry (Err NoProcess)
  unfolding OfState Answers perform number_of value_of
  call_away is_image pool e = call_of entry (Err NoProcess) is_image λ s rest holds. refused_as (Err NoProcess) no_process refl refl s rest holds (rollback_away p t s (sym (pool s rest holds) ∙ e))

  pub call_without : {r : Bool} → IsImage entry → OfState entry (λ s. r ≡ in_pool s p) → r ≡ true → OfState entry (FindsCheck p t None) → RollbackCall p t entry entry (Err NoCheckpoint)
  unfolding OfState FindsCheck Answers perform number_of value_of
  call_without is_image pool e found =
      call_of entry (Err NoCheckpoint) is_image λ s rest holds. refused_as (Err NoCheckpoint) no_checkpoint refl refl s rest holds (rollback_without p t s (sym (pool s rest holds) ∙ e) (found s rest holds))

  told : (exit : List ℕ) (r : Answer) (s : State) (rest : List ℕ) (back : RolledBack) → Tells back r → exit ≡ image (rolled_state s back) ++ rest → outcome (number_of r) (value_of r) exit ≡ stored (of_rollback s back) rest
  unfolding stored of_rollback count_in number_of value_of rolled_state
  told exit r s rest back (tells_done n end) e = λ i. outcome done n (e i)
  told exit r s rest back tells_held e = λ i. outcome held 0 (e i)

  pub call_back : (i : ℕ) (back : Event) (exit : List ℕ) (r : Answer) {live : Bool} → back ≡ record { line = 2 * p; index = i } → IsImage entry → OfState entry (λ s. live ≡ in_pool s p) → live ≡ true → OfState entry (FindsCheck p t (Some i)) → OfWords entry (EventBack back.line back.index exit r)
      → RollbackCall p t entry exit r
  unfolding OfState FindsCheck OfWords EventBack Answers perform
  call_back i back exit r at is_image pool e found backs = call_of exit r is_image λ s rest holds.
      let b = subst (λ (z : Event). OfWords entry (EventBack z.line z.index exit r)) at backs s rest holds (entries_of p) refl in
      let is = rollback_at p t s (sym (pool s rest holds) ∙ e) (found s rest holds) in
      told exit r s rest (undo_to s (cut_before s (event (entries_of p) i))) b.tells b.leaves ∙ sym (ap (λ b. stored (of_rollback s b) rest) is)

  -- what the parts need
  pub call_place : {r : Bool} → OfState entry (λ s. r ≡ in_pool s p) → r ≡ true → OfState entry (IsPlace p)
  unfolding OfState
  call_place pool e s rest holds = in_places s holds.sound p (sym (pool s rest holds) ∙ e)

  pub call_happens : (i : ℕ) (back : Event) → back ≡ record { line = 2 * p; index = i } → OfState entry (FindsCheck p t (Some i)) → OfState entry (Happens back.line back.index)
  unfolding OfState FindsCheck level
  call_happens i back at found = subst (λ (z : Event). OfState entry (Happens z.line z.index)) (sym at)
      (λ s rest holds. record { line = entries_of p; numbered = refl; happens = level_in s (entries_of p) (newest_low t (history_at s p) (found s rest holds)) })
